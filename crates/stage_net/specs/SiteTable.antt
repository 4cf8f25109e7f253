pub mod Bits
pub mod Constants
pub mod Pointing
pub mod Parts
pub mod Lists
pub mod Staged
pub mod Tables
pub mod Sites
