pub mod Finished
pub mod Decision
