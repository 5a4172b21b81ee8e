pub mod Fields
pub mod Reader
pub mod Reading
pub mod Writer
