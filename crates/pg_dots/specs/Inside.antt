-- What only contracts between layers and proofs need.
pub mod Walks
pub mod Dots
pub mod Positions
pub mod Starts
