pub mod PositionForms
pub mod PositionSteps
pub mod TrailLists
pub mod TrailPositions
pub mod TrailStarts
pub mod TrailSteps
