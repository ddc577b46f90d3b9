-- What is told of a selection and its run.
pub mod SelectionSigns
pub mod SelectionAccounts
pub mod SelectedRuns
pub mod Runs
pub mod SelectedFiles
