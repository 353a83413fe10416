-- Worked calls.
pub mod PartCases
-- Theorems on the definitions.
pub mod Valid
pub mod Opened
pub mod Operations
pub mod Room
pub mod Carried
pub mod RoundTrip
pub mod Bytes
pub mod ValidBytes
pub mod StaysValid
pub mod Leaves
pub mod Exchange
pub mod Refused
pub mod Example
