pub mod EpochOrder
pub mod SinceLaws
