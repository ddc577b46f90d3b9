-- What the reader of a translate file checks, and what every table keeps.
pub mod BadHeads
pub mod Checks
pub mod Heads
pub mod Rules
pub mod SoundTables
