pub mod DottedSigns
pub mod Values
pub mod Starts
pub mod Texts
pub mod Inside
