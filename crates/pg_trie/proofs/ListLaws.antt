-- What is found in the lists of strings.
pub mod Entered
pub mod Found
pub mod Gathered
pub mod Rebuilt
pub mod Rising
