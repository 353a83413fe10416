pub mod WorkedRuns
pub mod AllowedCases
