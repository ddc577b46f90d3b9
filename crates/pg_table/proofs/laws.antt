pub mod PackedValues
pub mod Greatest
