pub mod Listing
pub mod Forming
pub mod Owning
pub mod Taking
pub mod Laying
