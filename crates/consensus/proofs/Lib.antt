pub mod Limits
pub mod FaultsStated
pub mod CrashCount
pub mod SameEnds
pub mod ClaimCases
