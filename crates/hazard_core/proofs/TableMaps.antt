pub mod Refilling
pub mod Filling
