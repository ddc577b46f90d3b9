-- What only contracts between layers and proofs need.
pub mod Records
pub mod Heads
