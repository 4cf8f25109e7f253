pub mod Places
pub mod Reload
pub mod Owns
pub mod Marks
pub mod Laws
