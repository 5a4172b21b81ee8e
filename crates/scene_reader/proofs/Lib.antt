pub mod Bounds
pub mod LinesOutcome
pub mod LinePasses
pub mod PutDown
pub mod FieldsPut
pub mod SceneRefuses
