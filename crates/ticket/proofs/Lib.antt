pub mod Stage
pub mod Stored
pub mod Fitting
pub mod FirstLine
pub mod Reached
pub mod ReadAs
