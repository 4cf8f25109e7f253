pub mod Inputs
pub mod Runs
pub mod Silent
pub mod Fits
pub mod Loads
pub mod Dumps
