pub mod Fields
pub mod Counts
