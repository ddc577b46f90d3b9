pub mod Joins
pub mod Layouts
mod LevelParts
pub mod CellsScans
pub mod TraceTexts
pub mod Ranges
mod TextRows
pub mod WeightItems
pub mod WordSteps
pub mod WordItems
pub mod WordMarks
pub mod ReadBack
