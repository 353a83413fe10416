pub mod Words
pub mod Scanning
pub mod Answer
pub mod Read
