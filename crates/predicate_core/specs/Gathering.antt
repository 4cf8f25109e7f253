-- The cells that stand for the writes of maps, where edges meet and after a node.
use Rattle.std.specs.Prelude.{ℕ, ◌≡◌, ◌<◌, ◌≤◌, ◌⊎◌, true, false, List, [], length, slice_index, slice_set, get_or, map as map_list, All}
use Rattle.cell_core.specs.Cells.{CellView}
use Rattle.cell_core.specs.Sites.{SiteView, site_at, records}
use Rattle.cell_core.specs.Rows.{AreRows, greatest}
use Rattle.operator_cells.specs.declared.held_cells.way.Way.{Way}
use Rattle.operator_cells.specs.HeldCells.Reading.{AreRanks}
use Rattle.predicate_core.specs.StepCells.Waiting.{WaitsFor}
use Rattle.operator_cells.specs.declared.joining.Arm.{Arm}
use Rattle.operator_cells.specs.Joining.{flat}

-- what an edge brings of the writes of a map: its bit, and the cell beside it
abbrev pub arm_of : List Way → List (List ℕ) → ℕ → ℕ → Way → Arm
arm_of ways pending q i d = record { bit = (get_or ways i d).bit; cell = slice_index (get_or pending i []) q }

abbrev pub arms_of : List Way → List (List ℕ) → List ℕ → ℕ → Way → List Arm
arms_of ways pending numbers q d = map_list (λ i. arm_of ways pending q i d) numbers

-- For each of so many maps a cell: that which all edges of these numbers bring, or one in the greatest row of their bits and of what they bring, which
-- is no lower than any that they bring. Where no map needs a later row than this, no new cell stands in a later one.
pub record GathersTo (old new : List CellView) (ways : List Way) (pending : List (List ℕ)) (numbers : List ℕ) (maps : ℕ) (all : List ℕ) : Type 0 where
  pub rows : (row : ℕ → ℕ) → AreRows new row → AreRows old row
  pub stays : (q : ℕ) (e : Way) (d : ℕ) → q < maps → All (λ a. a.cell ≡ d) (arms_of ways pending numbers q e) → slice_index all q ≡ d
  pub result : (row : ℕ → ℕ) (q : ℕ) (e : Way) → AreRows new row → q < maps → row (slice_index all q) ≤ greatest row (flat (arms_of ways pending numbers q e))
  pub above : (rank : ℕ → ℕ) (q : ℕ) (e : Way) → AreRanks new rank → q < maps → All (λ a. rank a.cell ≤ rank (slice_index all q)) (arms_of ways pending numbers q e)
  pub cells : (row : ℕ → ℕ) (last : ℕ) (e : Way) → AreRows new row
      → ((q : ℕ) → q < maps → ((d : ℕ) × All (λ a. a.cell ≡ d) (arms_of ways pending numbers q e)) ⊎ (greatest row (flat (arms_of ways pending numbers q e)) ≤ last))
      → (c : ℕ) → length old ≤ c → c < length new → row c ≤ last

-- After a node: for the map of the site of this number, if there is one that may write, a cell more that waits for it; else all stays.
pub record PassesTo (old new : List CellView) (sites : List SiteView) (number first : ℕ) (pending pending2 : List ℕ) : Type 0 where
  pub none : length sites ≤ number → (pending2 ≡ pending) × (new ≡ old)
  pub stays : number < length sites → records (site_at sites number).act ≡ false → (pending2 ≡ pending) × (new ≡ old)
  pub waits : number < length sites → records (site_at sites number).act ≡ true
      → (c : ℕ) × (pending2 ≡ slice_set pending (site_at sites number).map c) × WaitsFor old new (site_at sites number) number first (slice_index pending (site_at sites number).map) c
