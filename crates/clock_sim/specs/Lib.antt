pub mod Running
pub mod Ready
pub mod Steps
pub mod Flat
pub mod Orders
pub mod Edges
pub mod Layouts
