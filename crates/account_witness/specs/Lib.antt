pub mod Fields
pub mod Header
pub mod Walk
pub mod Witness
pub mod Reading
