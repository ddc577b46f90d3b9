pub mod ListLaws
pub mod TrieLaws
pub mod DeletingLaws
