pub mod FourTexts
