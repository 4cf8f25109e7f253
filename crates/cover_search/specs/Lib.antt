pub use Rattle.cover_core.specs as cover_core
pub mod Made
