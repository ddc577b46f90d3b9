pub mod Word
pub mod DictionaryWords
pub mod Parts
pub mod Inside
