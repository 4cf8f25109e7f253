pub mod Fitting
pub mod Staying
pub mod Keeping
