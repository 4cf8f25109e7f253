pub mod Parts
pub mod Premises
pub mod Tables
pub mod Saying
pub mod Keys
