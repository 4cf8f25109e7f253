pub mod Pointing
pub mod Fits
pub mod Made
