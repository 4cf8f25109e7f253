pub use Rattle.list_laws.proofs as list_laws_laws
pub use Rattle.net_core.proofs as net_core_laws
pub mod GatheredLaws
pub mod Renamed
pub mod Solved
pub mod Ordered
pub mod OrderLaws
pub mod Edges
pub mod LinkedLaws
pub mod Loops
pub mod Ranges
pub mod LinkedTrees
pub mod Linkings
pub mod Widths
pub mod TypedLaws
pub mod BlockForms
pub mod ProductBlocks
