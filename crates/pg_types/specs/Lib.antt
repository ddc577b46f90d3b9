pub mod Refusals
pub mod ValuesOrRefusals
pub mod Lines
pub mod Numbers
pub mod Parameters
pub mod Placement
pub mod Tails
pub mod Inside
