pub mod Numbers
pub mod Forms
pub mod Lookups
pub mod Texts
pub mod Inside
