pub use Rattle.cover_core.proofs as cover_core_laws
