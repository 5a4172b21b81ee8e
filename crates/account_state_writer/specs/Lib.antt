pub mod Slices
pub mod Writer
pub mod Checks
pub mod Entries
pub mod Lent
