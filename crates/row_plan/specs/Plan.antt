-- In which row each value of a program is made, and up to which it is kept.
use Rattle.std.specs.Prelude.{ℕ, suc, ◌≡◌, ◌<◌, ◌≤◌, max, nat_le, Bool, true, ◌&&◌, if◌then◌else◌, Some, List, [], ◌∷◌, ◌++◌, length, slice_index, All, Contains, map as map_list}
use Rattle.std.specs.List.{filter}
use Rattle.xdp_state.specs.declared.refusal.Refusal.{Refusal}
use Rattle.xdp_state.specs.declared.refusal.Why.TheVariants.{Stages}
use Rattle.xdp_state.specs.Reasons.{most_stages}
use Rattle.cell_core.specs.declared.program.Node.{Node}
use Rattle.cell_core.specs.Cells.{CellView, cell_at, site_in, is_read}
use Rattle.cell_core.specs.Sites.{SiteView, ProgramView, site_at, records}
use Rattle.cell_core.specs.Rows.{AreRows, greatest, numbers, node_row, last_row, taken_by}

-- ---- the row where packets commit
-- the greatest row of a read, of these cells from number k on
abbrev pub read_row : (ℕ → ℕ) → ℕ → List CellView → ℕ
read_row row k [] = 0
read_row row k (c ∷ cs) = if is_read c.op then max (row k) (read_row row (suc k) cs) else read_row row (suc k) cs

-- the greatest row of what sites take
abbrev pub site_row : (ℕ → ℕ) → List SiteView → ℕ
site_row row [] = 0
site_row row (s ∷ ss) = max (greatest row (taken_by s)) (site_row row ss)

-- Packets commit in the greatest row of reads and of what sites take, their guards among it: 0 where there are no sites.
abbrev pub commit_row : (ℕ → ℕ) → ProgramView → ℕ
commit_row row p = max (read_row row 0 p.cells) (site_row row p.sites)

-- ---- how far values are kept
-- the cells of the answer
abbrev pub answer_cells : ProgramView → List ℕ
answer_cells p = p.verdict ∷ p.target ∷ map_list (λ b. b.cell) p.frame

-- A value is needed in a row: in its own, in that of a cell that takes it, where packets commit for a site that takes it and for what an
-- operation that may write answers, and in the last row for the answer.
pub data IsNeeded (p : ProgramView) (row : ℕ → ℕ) (commit last k at : ℕ) : Type 0 where
  Made : at ≡ row k → IsNeeded p row commit last k at
  Taken : (c : ℕ) → c < length p.cells → Contains (cell_at p.cells c).ins k → at ≡ row c → IsNeeded p row commit last k at
  AtSite : (s : SiteView) → Contains p.sites s → Contains (taken_by s) k → at ≡ commit → IsNeeded p row commit last k at
  Written : (j : ℕ) → site_in (cell_at p.cells k).op ≡ Some j → records (site_at p.sites j).act ≡ true → at ≡ commit → IsNeeded p row commit last k at
  Answered : Contains (answer_cells p) k → at ≡ last → IsNeeded p row commit last k at

-- each value is kept up to the greatest row in which it is needed
pub record AreKept (p : ProgramView) (row kept : ℕ → ℕ) (commit last : ℕ) : Type 0 where
  pub enough : (k at : ℕ) → k < length p.cells → IsNeeded p row commit last k at → at ≤ kept k
  pub needed : (k : ℕ) → k < length p.cells → IsNeeded p row commit last k (kept k)

-- of the first n values those that are there in a row: they are made by then, and kept so far
abbrev pub is_live : (ℕ → ℕ) → (ℕ → ℕ) → ℕ → ℕ → Bool
is_live row kept at k = nat_le (row k) at && nat_le at (kept k)

abbrev pub live_cells : (ℕ → ℕ) → (ℕ → ℕ) → ℕ → ℕ → List ℕ
live_cells row kept at n = filter (is_live row kept at) (numbers 0 n)

-- ---- the plan
-- the row of each value and the last that it is kept in, by the number of its cell; the row where packets commit, and the last row
pub record Plan : Type 0 where
  pub rows : List ℕ
  pub kept : List ℕ
  pub commit : ℕ
  pub last : ℕ

pub record IsPlan (p : ProgramView) (plan : Plan) : Type 0 where
  pub row_count : length plan.rows ≡ length p.cells
  pub rows : AreRows p.cells (slice_index plan.rows)
  pub commit : plan.commit ≡ commit_row (slice_index plan.rows) p
  pub last : plan.last ≡ last_row (slice_index plan.rows) p.nodes
  pub few : plan.last ≤ most_stages
  pub kept_count : length plan.kept ≡ length p.cells
  pub kept : AreKept p (slice_index plan.rows) (slice_index plan.kept) plan.commit plan.last

-- A node is refused whose row exceeds the most stages, 256, and none before it.
pub record IsTooLate (p : ProgramView) (r : Refusal) : Type 0 where
  pub rows : List ℕ
  pub row_count : length rows ≡ length p.cells
  pub are_rows : AreRows p.cells (slice_index rows)
  pub before : List Node
  pub node : Node
  pub after : List Node
  pub nodes_are : p.nodes ≡ before ++ node ∷ after
  pub within : All (λ n. node_row (slice_index rows) n ≤ most_stages) before
  pub beyond : most_stages < node_row (slice_index rows) node
  pub at_is : r.at ≡ node.place
  pub why_is : r.why ≡ Stages
