pub mod Operations
pub mod Parts
pub mod Words
pub mod Whole
pub mod Laws
