-- Inside.
pub mod Steps
pub mod Accepting
pub mod Texts
