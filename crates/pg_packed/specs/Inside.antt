-- What only contracts between layers and proofs need.
pub mod Engines
pub mod EnteredPatterns
pub mod Starts
