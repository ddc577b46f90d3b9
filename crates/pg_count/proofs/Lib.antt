mod Chaining
pub mod Above
pub mod Adding
pub mod Beginning
pub mod Counted
pub mod Flooring
pub mod Nexting
pub mod Searching
