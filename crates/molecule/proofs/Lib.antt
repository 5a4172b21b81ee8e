pub mod Form
pub mod CanonicalForm
pub mod Inverse
pub mod TableTheorem
pub mod BytesTheorem
pub mod CanonicalTheorem
