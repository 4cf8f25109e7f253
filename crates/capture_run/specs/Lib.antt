pub mod Lines
pub mod States
pub mod Writes
pub mod Results
pub mod Captures
pub mod Passing
pub mod Runs
pub mod Driving
