mod TableRows
pub mod ByteParts
