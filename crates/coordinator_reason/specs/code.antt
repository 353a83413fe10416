pub mod ByEnds
