pub mod Lines
pub mod Reading
pub mod Writing
pub mod Steps
pub mod Text
pub mod Laws
