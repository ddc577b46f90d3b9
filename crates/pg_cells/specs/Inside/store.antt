-- The row of cells, its free cells and its bounds.
pub mod BlockedBases
pub mod Bounds
pub mod Fit
pub mod CellRows
pub mod SetFit
pub mod BitSets
pub mod Store
pub mod Writes
