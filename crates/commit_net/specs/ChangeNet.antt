pub mod Pointed
pub mod Written
pub mod Changes
