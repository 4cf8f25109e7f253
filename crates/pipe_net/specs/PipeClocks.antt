pub mod Following
pub mod Standing
pub mod Right
