-- The form of each command: the arguments that it takes, and what they ask for.
pub mod Generate
pub mod Sample
pub mod Pack
pub mod Totals
pub mod Prune
pub mod Sweep
