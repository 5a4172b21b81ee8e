pub mod Feeding
pub mod SighashTheorem
