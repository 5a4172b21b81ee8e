pub mod Molecule
pub mod Table3
pub mod Bytes
pub mod Canonical
