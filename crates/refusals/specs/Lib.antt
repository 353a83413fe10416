pub mod Number
pub mod Answered
