pub mod WalkLaws
pub mod Accepted
pub mod Inverse
pub mod Unique
pub mod Steps
pub mod OneReading
