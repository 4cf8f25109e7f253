pub mod Bytes
pub mod Firsts
