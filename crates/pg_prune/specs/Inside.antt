-- What only contracts between layers and proofs need.
pub mod EntryTexts
pub mod Findings
pub mod Needs
pub mod Prunings
pub mod positions
pub mod rounds
