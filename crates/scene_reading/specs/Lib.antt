pub mod Lines
pub mod Reading
pub mod Print
pub mod Left
