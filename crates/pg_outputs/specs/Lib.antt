pub mod Lists
pub mod Inside
