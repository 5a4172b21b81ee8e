pub mod Fits
pub mod Table64
pub mod Sizes
