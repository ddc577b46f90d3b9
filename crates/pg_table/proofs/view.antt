pub mod CellWalks
pub mod Levels
pub mod MarkSteps
pub mod WordSteps
pub mod FileRecords
pub mod TableLookups
