pub mod ValidState
pub mod PartCalls
