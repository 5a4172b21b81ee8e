pub mod Le
pub mod Layout
pub mod Lists
pub mod Places
pub mod Zeroed
