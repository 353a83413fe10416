pub mod OfRun
pub mod Answers
