-- The positions that are compared, and at which of them entries stand.
pub mod EntryPositions
pub mod PositionInReach
pub mod Trails
pub mod WordPositions
