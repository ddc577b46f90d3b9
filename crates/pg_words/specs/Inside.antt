-- What only contracts between layers and proofs need.
pub mod Names
pub mod Numbers
pub mod CommandRequests
pub mod forms
pub mod Requests
pub mod Slips
pub mod Commands
