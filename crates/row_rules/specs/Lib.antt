pub use Rattle.cell_core.specs as cell_core
pub use Rattle.kind_core.specs as kind_core
pub use Rattle.unfold_core.specs as unfold_core
pub mod NodeRows
pub mod PlaceRows
