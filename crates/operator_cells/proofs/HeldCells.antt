pub mod MonotoneLaws
pub mod PointerLaws
pub mod RowLaws
