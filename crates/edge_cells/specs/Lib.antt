pub mod Widening
pub mod Meeting
pub mod Joining
pub mod Testing
pub mod Leaving
pub mod Rows
pub mod Pointing
pub mod NodeCells
