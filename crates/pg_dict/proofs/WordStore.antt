-- What a store and its words tell.
pub mod Adds
pub mod Around
pub mod Enters
pub mod Good
pub mod Parts
pub mod SiteRows
pub mod Told
pub mod WordTests
