-- The laws of the definitions of this crate.
pub mod Laws
pub mod AboveLevel
pub mod ClosedDots
pub mod Steps
