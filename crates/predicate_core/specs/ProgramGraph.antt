pub mod Graphs
pub mod Sound
pub mod Nodes
pub mod Ends
