pub mod Readers
pub mod Writers
