pub use Rattle.row_rules.proofs as row_rules_laws
pub mod MakingLaws
pub mod RisingLaws
pub mod SeenLaws
pub mod Growing
pub mod Numbers
pub mod Conditions
pub mod Shifts
pub mod SignedShifts
pub mod Arms
pub mod ArmLaws
pub mod Edges
pub mod Bytes
pub mod Division
pub mod SignedDivision
pub mod Spread
pub mod Standing
pub mod HeldCells
