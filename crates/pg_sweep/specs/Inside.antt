-- What only contracts between layers and proofs need.
pub mod Inputs
pub mod Least
pub mod RowsAndWinner
pub mod SweepData
