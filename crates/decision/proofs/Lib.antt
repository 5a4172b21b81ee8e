pub mod Quorum
pub mod Listed
pub mod DecisionTheorem
pub mod RequestsRead
pub mod RoomEnough
pub mod LongRequest
