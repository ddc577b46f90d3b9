-- What a packed table says of a word, read in place.
pub mod ListsOf
pub mod Raising
pub mod Marks
pub mod Greatest
