pub use Rattle.list_laws.specs as list_laws
pub mod Words
pub mod Beats
pub mod Filling
pub mod Clocks
pub mod Laws
pub mod Ports
