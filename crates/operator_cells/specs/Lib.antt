pub use Rattle.row_rules.specs as row_rules
pub mod Making
pub mod Rising
pub mod Dividing
pub mod Joining
pub mod Shifting
pub mod Spreading
pub mod Comparing
pub mod Following
pub mod Standing
pub mod HeldCells
