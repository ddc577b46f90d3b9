-- What the positions of a word are found to be, and what a pass counts in it.
pub mod PositionLists
pub mod Positions
pub mod WindowStrings
pub mod WordCounts
