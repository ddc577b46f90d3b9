-- What only contracts between layers and proofs need.
pub mod Strings
pub mod Greatest
pub mod Walks
pub mod Engines
pub mod Keys
