pub mod Search
pub mod Cells
