pub mod Parts
pub mod Following
