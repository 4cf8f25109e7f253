-- What a place takes is there: of cells, and of their pointers.
use Rattle.std.specs.Prelude.{◌≡◌, ℕ, suc, ◌<◌, ◌≤◌, Bool, true, false, List, length, take, slice_index, All, Contains}
use Rattle.std.proofs.Common.{◌⊎◌}
use Rattle.hazard_core.specs.cell_core.declared.operator.Operator.TheVariants as op
use Rattle.hazard_core.specs.cell_core.Cells.{cell_at}
use Rattle.hazard_core.specs.cell_core.Formed.{AreFormed}
use Rattle.hazard_core.specs.cell_core.Sites.{ProgramView}
use Rattle.overlay_net.specs.cell_nets.Computing.{is_outside}
use Rattle.row_plan.specs.Plan.{Plan, IsPlan, answer_cells}
use Rattle.row_net.specs.Apart.{TakeClean}
use Rattle.row_net.specs.Lists.{is_early, made_cells}
use Rattle.row_net.specs.Needed.{AreNeeded, flag}
use Rattle.row_net.specs.Table.{is_constant}
use Rattle.row_net.specs.PlaceNet.Place.{width_at}
use Rattle.row_net.specs.SitePlace.Pointing.{Takes}
use Rattle.stage_net.specs.SiteTable.Lists.{held_cells, held_pointers, made_pointers}
use Rattle.stage_net.specs.SiteTable.Parts.{AreParts}
use Rattle.stage_net.specs.SiteTable.Pointing.{AreFlagged}

-- A needed cell is there where a place begins: it is the same for all packets, it comes from outside in this row, as what reads give, or the place
-- before holds it.
pub data IsStaged (p : ProgramView) (plan : Plan) (needed parts : List Bool) (at k : ℕ) : Type 0 where
  Same : flag needed k ≡ true → is_constant (cell_at p.cells k) ≡ true → IsStaged p plan needed parts at k
  Outside : flag needed k ≡ true → is_outside (cell_at p.cells k).op ≡ true → slice_index plan.rows k ≡ at → IsStaged p plan needed parts at k
  Before : (before : ℕ) → suc before ≡ at → Contains (held_cells p plan needed parts before) k → IsStaged p plan needed parts at k

-- So is a pointer: the cell has none, a read of this row finds it, or the place before holds it.
pub data IsPointed (p : ProgramView) (plan : Plan) (needed parts points : List Bool) (at k : ℕ) : Type 0 where
  Plain : flag needed k ≡ true → flag points k ≡ false → IsPointed p plan needed parts points at k
  Found : (j : ℕ) → flag needed k ≡ true → (cell_at p.cells k).op ≡ op.Found j → slice_index plan.rows k ≡ at → IsPointed p plan needed parts points at k
  Kept : (before : ℕ) → suc before ≡ at → Contains (held_pointers p plan needed parts points before) k → IsPointed p plan needed parts points at k

-- What a made cell takes is staged or made before it, and what a place holds is staged or made there; so it is with pointers, where a join takes its edges
-- as cells. Products take early cells alone. The last place holds what the answer takes, and each place up to the one where packets commit the cells of sites
-- that stand in rows so far, with their pointers.
pub record AreStaged (p : ProgramView) (plan : Plan) (needed parts points : List Bool) : Type 0 where
  pub inputs :
      (at n : ℕ) → n < length (made_cells p plan needed at)
      → All (λ i. IsStaged p plan needed parts at i ⊎ Contains (take n (made_cells p plan needed at)) i) (cell_at p.cells (slice_index (made_cells p plan needed at) n)).ins
  pub apart : (at : ℕ) → TakeClean (is_early p plan at) p.cells (made_cells p plan needed at)
  pub held : (at : ℕ) → All (λ k. IsStaged p plan needed parts at k ⊎ Contains (made_cells p plan needed at) k) (held_cells p plan needed parts at)
  pub pointers :
      (at n : ℕ) → n < length (made_pointers p plan needed points at)
      → Takes (λ i. IsStaged p plan needed parts at i ⊎ Contains (made_cells p plan needed at) i) (λ i. IsPointed p plan needed parts points at i ⊎ Contains (take n (made_pointers p plan needed points at)) i)
      (cell_at p.cells (slice_index (made_pointers p plan needed points at) n)).op (cell_at p.cells (slice_index (made_pointers p plan needed points at) n)).ins
  pub kept_pointers : (at : ℕ) → All (λ k. IsPointed p plan needed parts points at k ⊎ Contains (made_pointers p plan needed points at) k) (held_pointers p plan needed parts points at)
  pub answer :
      (k : ℕ) → k < length p.cells → Contains (answer_cells p) k → slice_index plan.rows k ≤ plan.last
      → (is_constant (cell_at p.cells k) ≡ true) ⊎ Contains (held_cells p plan needed parts plan.last) k
  pub sites : (at k : ℕ) → at ≤ plan.commit → k < length p.cells → flag parts k ≡ true → slice_index plan.rows k ≤ at → (is_constant (cell_at p.cells k) ≡ true) ⊎ Contains (held_cells p plan needed parts at) k
  pub site_pointers : (at k : ℕ) → at ≤ plan.commit → k < length p.cells → flag parts k ≡ true → slice_index plan.rows k ≤ at → (flag points k ≡ false) ⊎ Contains (held_pointers p plan needed parts points at) k

-- ---- of the lists themselves
pub record IsMadeAt (p : ProgramView) (plan : Plan) (at k : ℕ) : Type 0 where
  pub within : k < length p.cells
  pub row : slice_index plan.rows k ≡ at
  pub computed : is_outside (cell_at p.cells k).op ≡ false

pub record IsHeldAt (p : ProgramView) (plan : Plan) (at k : ℕ) : Type 0 where
  pub within : k < length p.cells
  pub row : slice_index plan.rows k ≤ at

-- Made are cells of this row that are computed, held are cells of rows so far; of a cell that is held there are bits.
pub record AreLists (p : ProgramView) (plan : Plan) (needed parts points : List Bool) : Type 0 where
  pub made : (at : ℕ) → All (IsMadeAt p plan at) (made_cells p plan needed at)
  pub held : (at : ℕ) → All (IsHeldAt p plan at) (held_cells p plan needed parts at)
  pub wide : (at : ℕ) → All (λ k. 0 < width_at p.cells k) (held_cells p plan needed parts at)
  pub pointers_made : (at : ℕ) → All (IsMadeAt p plan at) (made_pointers p plan needed points at)
  pub pointers_held : (at : ℕ) → All (IsHeldAt p plan at) (held_pointers p plan needed parts points at)

-- What is at hand in a row: cells that are the same for all packets, those from outside, and those that the place before holds; of pointers those of cells that
-- have none, those that reads find, and those that the place before holds.
pub record AreAtHand (p : ProgramView) (plan : Plan) (needed parts points : List Bool) (at : ℕ) (Has HasPointer : ℕ → Type 0) : Type 0 where
  pub same : (k : ℕ) → k < length p.cells → is_constant (cell_at p.cells k) ≡ true → Has k
  pub outside : (k : ℕ) → flag needed k ≡ true → is_outside (cell_at p.cells k).op ≡ true → slice_index plan.rows k ≡ at → Has k
  pub before : (before : ℕ) → suc before ≡ at → All Has (held_cells p plan needed parts before)
  pub plain : (k : ℕ) → k < length p.cells → flag points k ≡ false → HasPointer k
  pub found : (k j : ℕ) → flag needed k ≡ true → (cell_at p.cells k).op ≡ op.Found j → slice_index plan.rows k ≡ at → HasPointer k
  pub pointers_before : (before : ℕ) → suc before ≡ at → All HasPointer (held_pointers p plan needed parts points before)

-- So are the lists of each plan.
abbrev pub StagesArePlaced : Type 0
StagesArePlaced =
    (p : ProgramView) (plan : Plan) (needed parts points : List Bool) → AreFormed p.cells → IsPlan p plan → AreNeeded p needed → AreParts p parts → AreFlagged p.cells points
    → AreStaged p plan needed parts points

abbrev pub ListsAreFormed : Type 0
ListsAreFormed = (p : ProgramView) (plan : Plan) (needed parts points : List Bool) → AreLists p plan needed parts points
