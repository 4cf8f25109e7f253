pub mod Listing
pub mod SiteLaws
pub mod Siting
pub mod Taking
pub mod Aiming
pub mod Acting
pub mod Laying
