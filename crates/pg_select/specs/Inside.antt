-- What only contracts between layers and proofs need.
pub mod words
pub mod laws
pub mod engine
pub mod Choices
pub mod SumSteps
