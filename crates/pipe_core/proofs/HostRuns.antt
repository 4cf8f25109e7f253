pub mod Clocks
pub mod Words
pub mod Filling
pub mod Loading
pub mod Silence
pub mod Reading
pub mod Dumping
pub mod Fitting
