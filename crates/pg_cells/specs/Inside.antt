-- What only contracts between layers and proofs need.
pub mod families
pub mod linked
pub mod store
