-- The cells that read the sites of a program, and where its accesses begin.
use Rattle.std.specs.Prelude.{ℕ, ◌≡◌, ◌<◌, length}
use Rattle.hazard_core.specs.cell_core.declared.operator.Operator.TheVariants.{Found, Answer}
use Rattle.hazard_core.specs.cell_core.Cells.{cell_at}
use Rattle.hazard_core.specs.cell_core.Sites.{ProgramView, site_at}
use Rattle.hazard_core.specs.StageValues.{found_cell, answer_cell}
use Rattle.operator_cells.specs.HeldCells.Aligned.{IsAligned}
use Rattle.operator_cells.specs.HeldCells.Paths.{GraphView}
use Rattle.operator_cells.specs.HeldCells.Law.{IsLaw}
use Rattle.operator_cells.specs.HeldCells.Reading.{answer_bits}

-- A cell that says whether the key of site j is there is the only one, and a bit.
pub record IsFoundCell (p : ProgramView) (j c : ℕ) : Type 0 where
  pub site : j < length p.sites
  pub cell : found_cell p.cells j ≡ c
  pub width : (cell_at p.cells c).width ≡ 1
  pub from : (cell_at p.cells c).from ≡ 0

-- A cell that holds what site j answers is the only one, and has the low bits of it, as many as the operation answers.
pub record IsAnswerCell (p : ProgramView) (j c : ℕ) : Type 0 where
  pub site : j < length p.sites
  pub cell : answer_cell p.cells j ≡ c
  pub width : (cell_at p.cells c).width ≡ answer_bits (site_at p.sites j).act
  pub from : (cell_at p.cells c).from ≡ 0

pub record AreReadCells (p : ProgramView) : Type 0 where
  pub found : (c j : ℕ) → c < length p.cells → (cell_at p.cells c).op ≡ Found j → IsFoundCell p j c
  pub answer : (c j : ℕ) → c < length p.cells → (cell_at p.cells c).op ≡ Answer j → IsAnswerCell p j c

abbrev pub ReadCellsAreFirst : Type 0
ReadCellsAreFirst = (g : GraphView) (p : ProgramView) → IsLaw g p → AreReadCells p

abbrev pub AccessesAreAligned : Type 0
AccessesAreAligned = (g : GraphView) (p : ProgramView) → IsLaw g p → (j : ℕ) → j < length p.sites → IsAligned (site_at p.sites j).act
