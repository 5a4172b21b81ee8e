pub mod Digest
pub mod Hashed
pub mod Sighash
