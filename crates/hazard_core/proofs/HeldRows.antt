pub mod Making
pub mod Finding
pub mod Fitting
