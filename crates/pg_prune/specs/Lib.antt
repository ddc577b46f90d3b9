pub mod Positions
pub mod Prunes
pub mod Promises
pub mod Reports
pub mod Inside
