pub mod Sweeps
pub mod Winners
pub mod Promises
pub mod Files
pub mod Inside
