pub use Rattle.cover_core.proofs as cover_core_laws
pub mod CountingLaws
pub mod ObjectSizes
pub mod Giving
