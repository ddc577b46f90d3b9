-- What only contracts between layers and proofs need.
pub mod Laws
pub mod Extents
pub mod Breaches
pub mod text
pub mod view
