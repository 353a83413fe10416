pub mod Becoming
pub mod Stored
pub mod RoundDone
