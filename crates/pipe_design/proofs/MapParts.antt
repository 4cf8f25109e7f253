pub mod Listing
pub mod Forming
pub mod Operating
pub mod Taking
pub mod Gathering
pub mod Laying
