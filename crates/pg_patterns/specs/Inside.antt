-- What only contracts between layers and proofs need.
pub mod Search
pub mod Drafts
pub mod EntryLines
pub mod PatternLines
pub mod PatternMaps
pub mod DottedOrder
