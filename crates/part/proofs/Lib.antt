-- Laws of the definitions, one for each way that a function ends, which the functions' proofs cite.
pub mod Closed
pub mod Operations
