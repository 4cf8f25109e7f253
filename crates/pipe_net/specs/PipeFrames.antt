pub mod Parts
pub mod Returning
pub mod Following
