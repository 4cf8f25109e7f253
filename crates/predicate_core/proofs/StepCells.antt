pub mod Behind
pub mod Chosen
pub mod Ends
pub mod Nodes
pub mod Standing
pub mod Waiting
pub mod Points
