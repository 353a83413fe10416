pub mod RanIn
pub mod Untouched
