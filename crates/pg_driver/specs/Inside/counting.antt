-- How the windows of a level are counted, and which positions are open.
pub mod Counting
pub mod LevelCounting
pub mod OpenLevels
pub mod OpenPositions
pub mod OpenSigns
pub mod WordLevels
