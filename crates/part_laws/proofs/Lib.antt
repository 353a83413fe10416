pub mod ValidState
pub mod Heard
pub mod PartCalls
