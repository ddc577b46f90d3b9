pub mod PackedTexts
pub mod PackedHeads
