pub mod Number
pub mod Format
pub mod Reading
pub mod Next
pub mod Streaming
pub mod Time
pub mod Laws
