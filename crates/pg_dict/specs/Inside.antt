-- What only contracts between layers and proofs need.
pub mod Sites
pub mod Store
pub mod LineWords
pub mod LentWords
pub mod WrittenWords
pub mod SoundWords
pub mod MarkedPositions
pub mod Parts
pub mod Lines
