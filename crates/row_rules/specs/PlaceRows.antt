pub mod Locations
pub mod Spans
pub mod Origins
pub mod Calls
pub mod Reading
pub mod Writing
