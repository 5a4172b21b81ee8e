pub mod FeeLaws
pub mod TotalLaws
pub mod TotalsTheorem
