pub mod Dots
pub mod Traces
pub mod Accounts
pub mod Inside
