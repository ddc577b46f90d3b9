-- The steps by which lines are read.
pub mod Entries
pub mod LineStarts
pub mod PositionedSigns
pub mod ReadColumns
pub mod RunningWords
pub mod Steps
