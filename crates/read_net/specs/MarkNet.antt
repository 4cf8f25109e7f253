pub mod Sites
pub mod Marks
pub mod Reload
pub mod Standing
