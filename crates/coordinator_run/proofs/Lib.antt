pub mod OfTable
pub mod Rounds
pub mod Stopping
