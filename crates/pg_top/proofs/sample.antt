pub mod MadeLines
pub mod SampleWords
pub mod SampleReads
pub mod SampleSteps
