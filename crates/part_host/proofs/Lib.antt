pub mod Places
pub mod Hearing
pub mod Calls
pub mod Alike
pub mod DecideAlike
pub mod Example
pub mod PartsConsensus
pub mod Kept
