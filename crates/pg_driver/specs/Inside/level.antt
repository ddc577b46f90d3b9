-- How far a level has come, pass by pass, and what its passes keep.
pub mod Levels
pub mod Passes
pub mod PassWindows
pub mod States
