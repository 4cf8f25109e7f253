pub mod Slots
pub mod Choosing
pub mod Shown
