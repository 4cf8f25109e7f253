pub mod Maps
pub mod Words
pub mod Places
pub mod Parts
pub mod Laws
pub mod FrameParts
pub mod MarkParts
