-- What only contracts between layers and proofs need.
pub mod Cut
pub mod FirstFalse
