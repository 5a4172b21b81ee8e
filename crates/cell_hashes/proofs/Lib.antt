pub mod HashLaws
pub mod HashesTheorem
