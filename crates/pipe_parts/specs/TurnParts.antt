pub mod Sites
pub mod Nets
pub mod Records
pub mod Parts
pub mod Laws
