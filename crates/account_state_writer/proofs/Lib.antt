pub mod Lent
pub mod Entries
pub mod Checked
pub mod Agreed
pub mod Limit
pub mod WritesBack
pub mod Session
