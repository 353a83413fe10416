pub mod Number
pub mod code
