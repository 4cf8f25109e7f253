pub mod Filling
pub mod Showing
pub mod Standing
pub mod Laying
