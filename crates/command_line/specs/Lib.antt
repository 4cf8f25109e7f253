pub mod Request
pub mod Commands
pub mod Means
pub mod AsksFor
pub mod Rows
