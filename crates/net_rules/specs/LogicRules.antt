pub mod Known
pub mod Flags
pub mod Made
