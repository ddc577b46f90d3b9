-- What is known of the entries and their holders in and between rounds.
pub mod EqualBreaks
pub mod Holders
pub mod Picks
pub mod Turns
pub mod AllRounds
