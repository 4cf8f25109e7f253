-- Which cells a design needs.
use Rattle.std.specs.Prelude.{◌≡◌, ℕ, ◌<◌, Bool, true, false, List, length, Contains}
use Rattle.std.proofs.Common.{get_or, ◌⊎◌}
use Rattle.overlay_net.specs.cell_core.Cells.{cell_at, is_read}
use Rattle.overlay_net.specs.cell_core.Sites.{SiteView, ProgramView}
use Rattle.overlay_net.specs.cell_core.Rows.{taken_by}
use Rattle.row_plan.specs.Plan.{answer_cells}

-- A cell is used: the answer or a site takes it, it is a read, or a used cell takes it.
pub data IsUsed (p : ProgramView) : ℕ → Type 0 where
  Answered : (k : ℕ) → Contains (answer_cells p) k → IsUsed p k
  AtSite : (k : ℕ) (s : SiteView) → Contains p.sites s → Contains (taken_by s) k → IsUsed p k
  Read : (k : ℕ) → is_read (cell_at p.cells k).op ≡ true → IsUsed p k
  Taken : (c k : ℕ) → IsUsed p c → Contains (cell_at p.cells c).ins k → IsUsed p k

-- by the number of a cell, false past the last
abbrev pub flag : List Bool → ℕ → Bool
flag flags k = get_or flags k false

-- the cells that are used are marked, and no others
pub record AreNeeded (p : ProgramView) (needed : List Bool) : Type 0 where
  pub count : length needed ≡ length p.cells
  pub used : (k : ℕ) → k < length p.cells → IsUsed p k → flag needed k ≡ true
  pub only : (k : ℕ) → flag needed k ≡ true → IsUsed p k

-- Marks become more: each cell of some, and no others.
pub record Marks (Used : ℕ → Type 0) (old new : List Bool) : Type 0 where
  pub count : length new ≡ length old
  pub grows : (k : ℕ) → flag old k ≡ true → flag new k ≡ true
  pub met : (k : ℕ) → Used k → k < length new → flag new k ≡ true
  pub some : (k : ℕ) → flag new k ≡ true → (flag old k ≡ true) ⊎ Used k

-- what sites take
abbrev pub OfSites : List SiteView → ℕ → Type 0
OfSites sites k = (s : SiteView) × Contains sites s × Contains (taken_by s) k

-- Marks become more: what a marked cell takes is marked too.
pub record Closes (p : ProgramView) (old new : List Bool) : Type 0 where
  pub count : length new ≡ length old
  pub grows : (k : ℕ) → flag old k ≡ true → flag new k ≡ true
  pub closed : (c k : ℕ) → flag new c ≡ true → Contains (cell_at p.cells c).ins k → flag new k ≡ true
  pub only : ((k : ℕ) → flag old k ≡ true → IsUsed p k) → (k : ℕ) → flag new k ≡ true → IsUsed p k
