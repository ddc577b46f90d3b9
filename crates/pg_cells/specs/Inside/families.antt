-- How families lie in the row, and how they grow, move and go.
pub mod Adding
pub mod Layouts
pub mod Moves
pub mod OneTrie
pub mod Removing
pub mod Root
