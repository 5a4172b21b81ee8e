pub mod CellLaws
pub mod Found
