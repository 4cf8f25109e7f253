pub mod Layout
pub mod Parts
pub mod Shown
pub mod Sites
pub mod Following
pub mod Entries
