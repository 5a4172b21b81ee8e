pub mod Rfc7693
pub mod Example
pub mod State
