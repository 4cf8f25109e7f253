pub use Rattle.bits_core.specs as bits_core
pub mod Helpers
pub mod Laid
pub mod Opcode
pub mod Rules
pub mod Spelling
pub mod Text
