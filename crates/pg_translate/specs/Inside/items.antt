-- The items of a line: how they are looked up, and what refuses them.
pub mod Items
pub mod Answers
pub mod Refusing
pub mod Rests
pub mod Digits
pub mod MarkBytes
pub mod GapItems
pub mod Kinds
pub mod Cuts
