pub mod Differences
pub mod FoundLines
pub mod Inside
