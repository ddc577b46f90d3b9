pub mod RefusedLines
pub mod InputPlans
pub mod Inside
