pub use Rattle.list_laws.specs as list_laws
pub mod File
pub mod Layout
pub mod Numbers
pub mod Opened
pub mod Pieces
pub mod Rules
