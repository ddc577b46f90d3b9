-- What is known of a packed table while its text is made from patterns.
pub mod PackedTrie
pub mod Sharing
pub mod Rows
pub mod Files
pub mod Cells
