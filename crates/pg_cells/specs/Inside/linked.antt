-- Families with values, and the links from sign to sign.
pub mod AreValuedFamilies
pub mod CellValues
pub mod Links
pub mod Members
pub mod ValuedFamilies
pub mod Walks
