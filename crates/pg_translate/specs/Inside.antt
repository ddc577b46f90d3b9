-- What only contracts between layers and proofs need.
pub mod items
pub mod spellings
pub mod tables
