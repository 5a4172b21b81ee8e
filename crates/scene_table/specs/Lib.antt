pub mod Scene
pub mod Lent
pub mod Valid
pub mod Places
pub mod RecordsWalk
pub mod Slices
