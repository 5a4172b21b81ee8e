pub mod Witnesses
pub mod GroupSighash
pub mod Hashed
