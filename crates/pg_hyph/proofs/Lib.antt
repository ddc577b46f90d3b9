pub mod Members
pub mod Outputs
pub mod Cuts
pub mod Bounds
pub mod Loops
pub mod Laws
