pub mod Going
pub mod Loading
pub mod Coming
pub mod Following
pub mod Runs
pub mod Dumps
