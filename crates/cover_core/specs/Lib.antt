pub use Rattle.unfold_core.specs as unfold_core
pub mod Settling
pub mod Cover
pub mod Laws
