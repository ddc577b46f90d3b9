-- How the candidates of a pass are chosen, and what becomes of them.
pub mod Choosing
pub mod Fates
pub mod LookAhead
