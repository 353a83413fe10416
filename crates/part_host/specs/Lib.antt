pub mod Part
pub mod Output
pub mod Hearing
pub mod Host
pub mod DecideAlike
pub mod Example
pub mod PartEnds
