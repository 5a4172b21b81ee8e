pub mod WriterLaws
pub mod Lent
pub mod Written
pub mod WritesBack
