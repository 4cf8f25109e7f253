pub mod NoLoops
pub mod Walked
pub mod FewStages
pub mod DemoGraph
