pub mod Words
pub mod Sited
pub mod Siting
pub mod Changing
