pub mod Joining
pub mod Passing
pub mod Rows
pub mod Acceptance
