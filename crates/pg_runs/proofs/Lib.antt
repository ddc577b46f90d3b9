pub mod Bounds
mod CountedAbove
