pub mod Fronts
pub mod InputsRead
pub mod Stopping
pub mod Puts
