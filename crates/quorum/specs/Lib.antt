pub mod Slots
pub mod Places
pub mod Operation
