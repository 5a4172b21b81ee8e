pub mod HashedLaws
pub mod FirstRows
pub mod SighashHash
