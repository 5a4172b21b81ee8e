pub mod Epoch
pub mod EpochOrder
pub mod Since
