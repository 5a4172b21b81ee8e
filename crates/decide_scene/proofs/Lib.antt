pub mod Outcomes
pub mod StoreEnough
pub mod TextBytes
pub mod EmptyInput
pub mod Numbers
pub mod TextFee
