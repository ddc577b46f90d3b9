-- What an engine means, and what its calls come to.
pub mod EngineCalls
pub mod Meanings
