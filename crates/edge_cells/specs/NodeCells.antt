pub mod Carrying
pub mod Ends
pub mod Feeding
pub mod Filling
pub mod Stepping
