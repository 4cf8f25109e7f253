pub mod Laid
pub mod Kept
