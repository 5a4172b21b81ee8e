pub mod Proofs
pub mod Walk
pub mod Decision
pub mod Requests
