pub mod Resolve
pub mod Session
pub mod Waiting
pub mod Transition
pub mod Branches
