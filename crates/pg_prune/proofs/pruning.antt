pub mod Finish
pub mod PrunedLaws
pub mod Told
pub mod NeedForms
pub mod NeedLaws
