pub mod Program
pub mod Sources
pub mod Keeping
pub mod PipelinePlan
pub mod Places
pub mod Laid
