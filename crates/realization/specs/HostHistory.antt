pub mod Rows
pub mod Host
