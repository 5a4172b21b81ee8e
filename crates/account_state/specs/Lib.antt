pub mod Fields
pub mod Reading
pub mod State
pub mod AuxRefused
pub mod Session
pub mod EntriesWalk
