pub mod Listing
pub mod Keeps
pub mod SourceLaws
pub mod Sourcing
pub mod Forming
pub mod Laying
pub mod PipelinePlanning
pub mod Behinds
