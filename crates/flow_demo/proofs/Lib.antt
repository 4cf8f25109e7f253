pub mod Captures
pub mod Writable
pub mod Written
pub mod Reading
pub mod Sizes
pub mod Texts
pub mod DemoGraph
