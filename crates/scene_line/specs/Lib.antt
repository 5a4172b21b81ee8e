pub mod Line
pub mod Kind
