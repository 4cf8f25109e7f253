pub mod Forms
pub mod Parts
pub mod Stored
pub mod Block
pub mod Laws
