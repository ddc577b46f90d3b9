pub mod InsertLaws
pub mod ListLaws
mod ListRows
pub mod RecordLaws
