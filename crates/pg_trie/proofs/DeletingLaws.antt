-- What the end of a level deletes and what it leaves.
pub mod Deleted
pub mod Ended
pub mod KeptFamilies
pub mod KeptStrings
pub mod Pruning
pub mod Renewing
pub mod TailsLaw
