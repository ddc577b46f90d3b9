pub mod AcceptedNames
pub mod NumbersWithin
pub mod Inside
