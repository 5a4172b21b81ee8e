pub mod Compression
pub mod Schedule
pub mod Example
