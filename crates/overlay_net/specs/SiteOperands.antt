pub mod Pointers
pub mod Sites
