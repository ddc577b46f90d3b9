pub mod BigEndian
pub mod Ranges
pub mod FormLaws
pub mod BreachLaws
