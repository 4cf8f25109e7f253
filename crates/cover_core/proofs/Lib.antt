pub use Rattle.unfold_core.proofs as unfold_core_laws
pub mod Deciding
pub mod Within
pub mod Silent
pub mod Twins
pub mod SameInsn
pub mod Touching
pub mod Moving
pub mod Told
pub mod Covered
