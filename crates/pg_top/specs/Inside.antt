-- What only contracts between layers and proofs need.
pub mod Comparing
pub mod Keeping
pub mod MadeWords
pub mod Packed
pub mod Plans
pub mod Printed
pub mod Requests
pub mod Sampled
pub mod Swept
pub mod Totalled
pub mod selection
