pub mod Results
pub mod PrintedPieces
pub mod Selections
pub mod SelectedLists
pub mod Asked
mod OutcomeRows
pub mod theorems
