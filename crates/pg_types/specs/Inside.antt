-- What only contracts between layers and proofs need.
pub mod reading
pub mod counting
pub mod Limits
pub mod PlacementSteps
pub mod Placing
pub mod Ranges
pub mod Signs
pub mod Bits
