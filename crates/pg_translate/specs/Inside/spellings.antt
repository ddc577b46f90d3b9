-- Spellings: how they may begin, which comes first, and their index.
pub mod Members
pub mod Beginnings
pub mod FirstSpellings
pub mod Fronts
pub mod Texts
