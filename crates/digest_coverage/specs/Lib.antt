pub mod Coverage
pub mod LockField
pub mod Border
pub mod Reaches
pub mod DigestReach
