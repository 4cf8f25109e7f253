-- What a program whose cells have rows is to keep to, for the places that read its maps.
use Rattle.std.specs.Prelude.{◌≡◌, ℕ, ◌+◌, ◌*◌, ◌^◌, ◌<◌, ◌≤◌, true, Some, List, length}
use Rattle.hazard_core.specs.xdp_maps.declared.decl.MapDecl.{MapDecl}
use Rattle.hazard_core.specs.cell_core.declared.operator.Operator.TheVariants.{Found, Answer}
use Rattle.hazard_core.specs.cell_core.Acts.{finds_key, reads}
use Rattle.hazard_core.specs.cell_core.Cells.{cell_at, site_in}
use Rattle.hazard_core.specs.cell_core.Formed.{AreFormed, AllFit}
use Rattle.hazard_core.specs.cell_core.Sites.{ProgramView, site_at}
use Rattle.hazard_core.specs.Tables.{TableState}
use Rattle.hazard_core.specs.Tabled.{AreTables}
use Rattle.hazard_core.specs.StageValues.{found_cell, answer_cell}
use Rattle.hazard_core.specs.Keeping.{LooksBelow}
use Rattle.overlay_net.specs.cell_nets.Operands.{IsWide}
use Rattle.overlay_net.specs.ValueNet.Words.{IsAligned}

-- There are tables of these declarations.
pub record HaveTables (decls : List MapDecl) : Type 0 where
  pub some : TableState
  pub tables : AreTables some
  pub declared : some.decls ≡ decls

-- A cell that reads a site: what the read looks at stands in earlier rows, all reads of the site in one. Whether its key is there one cell says, of one bit, and
-- one has what it answers.
pub record IsReadCell (p : ProgramView) (row : ℕ → ℕ) (c j : ℕ) : Type 0 where
  pub site : j < length p.sites
  pub below : LooksBelow row (row c) (site_at p.sites j)
  pub together : (d : ℕ) → d < length p.cells → site_in (cell_at p.cells d).op ≡ Some j → row d ≡ row c
  pub finds : (cell_at p.cells c).op ≡ Found j → finds_key (site_at p.sites j).act ≡ true
  pub answers : (cell_at p.cells c).op ≡ Answer j → reads (site_at p.sites j).act ≡ true
  pub found : (cell_at p.cells c).op ≡ Found j → c ≡ found_cell p.cells j
  pub answer : (cell_at p.cells c).op ≡ Answer j → c ≡ answer_cell p.cells j
  pub width : (cell_at p.cells c).op ≡ Found j → (cell_at p.cells c).width ≡ 1
  pub from : (cell_at p.cells c).op ≡ Found j → (cell_at p.cells c).from ≡ 0

-- The program, with maps of these declarations and pointers whose numbers have so many bits.
pub record IsStaged (p : ProgramView) (row : ℕ → ℕ) (decls : List MapDecl) (bits : ℕ) : Type 0 where
  pub formed : AreFormed p.cells
  pub fits : AllFit decls p.sites
  pub aligned : (j : ℕ) → j < length p.sites → IsAligned (site_at p.sites j).act
  pub few : length p.sites ≤ 65536
  pub wide : IsWide bits
  pub room : (j : ℕ) → j < length p.sites → 4 * j + 2 < 2 ^ bits
  pub reads : (c j : ℕ) → c < length p.cells → site_in (cell_at p.cells c).op ≡ Some j → IsReadCell p row c j
