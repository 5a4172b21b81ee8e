pub mod Text
pub mod Print
