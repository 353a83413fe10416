pub mod Fields
pub mod Whole
