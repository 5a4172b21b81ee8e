pub mod Errors
pub mod Rows
pub mod Policy
pub mod Write
pub mod Reading
pub mod Args
pub mod Limits
