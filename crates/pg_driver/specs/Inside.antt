-- What only contracts between layers and proofs need.
pub mod counting
pub mod level
pub mod choices
pub mod records
pub mod Layouts
