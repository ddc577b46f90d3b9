-- What a trie keeps and tells.
pub mod Changes
pub mod Kept
pub mod Listed
pub mod Listing
pub mod Rooted
