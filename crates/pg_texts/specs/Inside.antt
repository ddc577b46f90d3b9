-- What only contracts between layers and proofs need.
pub mod CellsRecords
pub mod ReportLines
pub mod CellsLines
pub mod CellsSteps
pub mod FoundStatuses
pub mod ReadBack
