pub mod Putting
pub mod Keeping
pub mod Loading
pub mod Leading
