pub mod Reading
pub mod Parts
pub mod Declared
pub mod Forming
