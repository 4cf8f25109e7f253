pub mod Words
pub mod WordTrees
pub mod Hosts
pub mod Array
pub mod ArrayNets
