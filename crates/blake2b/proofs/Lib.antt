pub mod Bytes
pub mod Feed
pub mod WholeBlocks
pub mod Whole
pub mod Chain
