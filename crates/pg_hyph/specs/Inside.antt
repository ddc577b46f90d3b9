-- What only contracts between layers and proofs need.
pub mod ListValues
pub mod Walks
