pub mod Shelf
pub mod Plan
pub mod File
pub mod Memory
pub mod Feeding
