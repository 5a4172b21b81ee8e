pub mod Capacity
pub mod Totals
