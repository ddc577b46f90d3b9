pub mod Cuts
pub mod FirstPart
pub mod Least
pub mod PrintedPart
mod DifferenceRows
