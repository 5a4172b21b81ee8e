pub mod Form
pub mod Inverse
pub mod PublicKeyProofTheorem
