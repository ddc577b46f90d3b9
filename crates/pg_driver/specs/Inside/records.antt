-- What a run records, and what its records tell.
pub mod AccountLines
pub mod CellsAccounts
pub mod RunAccounts
pub mod SoundRecords
