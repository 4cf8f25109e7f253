pub mod Maps
pub mod Parts
pub mod Hosting
pub mod Acting
pub mod Following
