pub mod RequestLaws
pub mod Answered
pub mod OneProof
pub mod WalkLaws
