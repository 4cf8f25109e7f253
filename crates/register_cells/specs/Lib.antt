pub mod Reading
pub mod Shifting
pub mod Giving
pub mod Storing
pub mod Plain
pub mod Rows
pub mod Combining
pub mod Pointing
