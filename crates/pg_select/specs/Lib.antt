pub mod Statuses
pub mod Windows
pub mod CountedPositions
pub mod Sums
pub mod Inside
