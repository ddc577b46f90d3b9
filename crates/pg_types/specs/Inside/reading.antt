-- The parts of a reading, and what its result says.
pub mod Answers
pub mod Demands
pub mod ItemSteps
pub mod Parts
pub mod LineEnds
