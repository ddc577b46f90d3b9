-- What the lines of a dictionary give.
pub mod LineLaws
pub mod Lines
pub mod ManyWords
pub mod Rows
pub mod Running
pub mod Sizes
pub mod SoundItems
pub mod Takes
pub mod WordLaws
