pub mod Adding
pub mod Viewing
pub mod References
pub mod Filling
pub mod Insns
pub mod Ending
pub mod Sounding
