pub mod Leaving
pub mod Rows
pub mod Stepping
pub mod Waiting
pub mod Pointing
