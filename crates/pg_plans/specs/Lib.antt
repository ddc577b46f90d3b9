pub mod ExitCodes
pub mod Calls
pub mod Plans
pub mod Outcomes
pub mod Laws
