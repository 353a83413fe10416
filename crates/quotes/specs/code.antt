pub mod ByDecision
