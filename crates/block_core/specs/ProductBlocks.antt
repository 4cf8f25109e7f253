pub mod Apart
pub mod Alone
