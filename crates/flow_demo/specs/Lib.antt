pub mod Draws
pub mod Packets
pub mod Program
pub mod DemoGraph
