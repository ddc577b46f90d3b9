pub mod SetReads
pub mod SweepTexts
