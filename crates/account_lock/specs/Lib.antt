pub mod Lock
pub mod Decides
pub mod Calls
