mod Joining
mod Ordering
mod Listing
mod Answering
mod Reached
mod Placing
mod PipelinePlanned
mod Marking
mod Acting
mod Naming
mod Whole
mod Made
pub mod MapParts
