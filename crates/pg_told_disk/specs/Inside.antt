-- What only contracts between layers and proofs need.
pub mod Changes
pub mod LinkLists
pub mod Memory
pub mod laws
