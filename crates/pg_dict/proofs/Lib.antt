pub mod LineReading
pub mod WordStore
