-- The windows that a pass counts, and windows with their numbers.
pub mod Counts
pub mod NumberedWindows
