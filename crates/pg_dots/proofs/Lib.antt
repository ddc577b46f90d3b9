pub mod Rows
pub mod Walks
pub mod Places
pub mod Shifts
