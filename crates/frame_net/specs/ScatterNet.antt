pub mod Scatter
pub mod ScatterNets
