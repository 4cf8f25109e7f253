pub mod Frames
pub mod Gather
pub mod Stores
pub mod GatherNets
pub mod Sources
pub mod SourcesNets
pub mod Answers
pub mod ScatterNet
