pub mod Instance
pub mod Limits
pub mod State
pub mod CrashCount
pub mod WellFormed
pub mod Consensus
pub mod FourProcesses
pub mod ClaimCases
