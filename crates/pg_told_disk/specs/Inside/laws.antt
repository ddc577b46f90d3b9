-- Laws of changes and links, by which a disk in memory knows that it is plain.
pub mod Cases
pub mod FollowedLinks
pub mod Nodes
pub mod ChangeLaws
pub mod DisksWithoutLinks
