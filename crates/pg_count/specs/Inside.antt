-- What only contracts between layers and proofs need.
pub mod Counting
pub mod Floors
pub mod Least
