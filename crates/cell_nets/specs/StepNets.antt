pub mod Standing
pub mod Folding
