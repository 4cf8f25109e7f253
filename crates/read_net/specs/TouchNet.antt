pub mod Marking
pub mod Touching
