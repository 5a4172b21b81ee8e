pub mod LockLaws
pub mod LockTheorem
pub mod Stages
