pub mod PlaceLaws
pub mod OperationLaws
pub mod Weights
