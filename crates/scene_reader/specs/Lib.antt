pub mod Reader
pub mod Room
