-- What only contracts between layers and proofs need.
pub mod NameFaults
pub mod ToldFiles
pub mod calls
pub mod disk
pub mod memory
pub mod quiet
pub mod writers
