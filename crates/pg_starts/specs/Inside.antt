-- What only contracts between layers and proofs need.
pub mod Starts
pub mod Orders
pub mod Sets
pub mod Cells
pub mod Codes
pub mod Known
pub mod CountsByNumber
pub mod Tallies
pub mod StartCountings
