pub mod ByEnds
pub mod Rows
