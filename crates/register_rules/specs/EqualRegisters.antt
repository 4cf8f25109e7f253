pub mod Equal
pub mod Alike
pub mod Settings
