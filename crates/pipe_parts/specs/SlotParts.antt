pub mod Slots
pub mod Nets
pub mod Laws
