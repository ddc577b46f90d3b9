pub mod Winners
pub mod Steps
pub mod Floats
pub mod Written
