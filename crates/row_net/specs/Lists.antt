-- What is made and what is carried at each place.
use Rattle.std.specs.Prelude.{◌≡◌, ℕ, zero, suc, ◌<◌, ◌≤◌, ◌==◌, nat_lt, nat_le, not, Bool, true, false, ◌&&◌, ◌||◌, List, length, take, slice_index, All, Contains}
use Rattle.std.specs.List.{filter, list_any}
use Rattle.std.proofs.Common.{◌⊎◌}
use Rattle.overlay_net.specs.cell_core.declared.operator.Operator.{Operator}
use Rattle.overlay_net.specs.cell_core.declared.operator.Operator.TheVariants.{NonZero}
use Rattle.overlay_net.specs.cell_core.Cells.{cell_at}
use Rattle.overlay_net.specs.cell_core.Formed.{AreFormed}
use Rattle.overlay_net.specs.cell_core.Rows.{numbers}
use Rattle.overlay_net.specs.cell_core.Sites.{ProgramView}
use Rattle.cell_nets.specs.Computing.{is_outside}
use Rattle.row_plan.specs.Plan.{Plan, IsPlan, answer_cells}
use Rattle.row_net.specs.Needed.{AreNeeded, flag}
use Rattle.row_net.specs.Apart.{TakeClean}
use Rattle.row_net.specs.Table.{is_constant}

-- a cell that is needed and is not the same for all packets
abbrev pub varies : ProgramView → List Bool → ℕ → Bool
varies p needed k = flag needed k && not (is_constant (cell_at p.cells k))

-- it is computed in this row
abbrev pub is_made : ProgramView → Plan → List Bool → ℕ → ℕ → Bool
is_made p plan needed at k = varies p needed k && (not (is_outside (cell_at p.cells k).op) && slice_index plan.rows k == at)

-- it is there in this row, and a later row takes it, or the answer does and this is the last row
abbrev pub is_carried : ProgramView → Plan → List Bool → ℕ → ℕ → Bool
is_carried p plan needed at k =
    varies p needed k && (nat_le (slice_index plan.rows k) at && (nat_lt at (slice_index plan.kept k) || at == plan.last && list_any (λ c. c == k) (answer_cells p)))

-- the cells of a place, in the order of their numbers
abbrev pub made_cells : ProgramView → Plan → List Bool → ℕ → List ℕ
made_cells p plan needed at = filter (is_made p plan needed at) (numbers 0 (length p.cells))

abbrev pub carried_cells : ProgramView → Plan → List Bool → ℕ → List ℕ
carried_cells p plan needed at = filter (is_carried p plan needed at) (numbers 0 (length p.cells))

-- ---- what products of a row take
abbrev pub is_non_zero : Operator → Bool
is_non_zero NonZero = true
is_non_zero op = false

-- a cell that no product of a row makes: one of an earlier row, or a `NonZero`; for the first row it is none
abbrev pub is_early : ProgramView → Plan → ℕ → ℕ → Bool
is_early p plan zero k = false
is_early p plan (suc j) k = nat_le (slice_index plan.rows k) j || is_non_zero (cell_at p.cells k).op

-- ---- what is there where it is taken

-- a cell that the place before carries
abbrev pub IsCarriedBefore : ProgramView → Plan → List Bool → ℕ → ℕ → Type 0
IsCarriedBefore p plan needed at k = (before : ℕ) × (suc before ≡ at) × Contains (carried_cells p plan needed before) k

-- it is there where a place begins: the same for all packets, from outside in this row, or carried by the place before
pub data IsBrought (p : ProgramView) (plan : Plan) (needed : List Bool) (at k : ℕ) : Type 0 where
  Same : is_constant (cell_at p.cells k) ≡ true → IsBrought p plan needed at k
  Outside : is_outside (cell_at p.cells k).op ≡ true → slice_index plan.rows k ≡ at → IsBrought p plan needed at k
  Carried : IsCarriedBefore p plan needed at k → IsBrought p plan needed at k

-- What a made cell takes is brought or made before it, products take early cells alone, what a place carries is brought or made there, and the last place carries what the
-- answer takes, if it is not the same for all packets and its row is not past the last.
pub record ArePlaced (p : ProgramView) (plan : Plan) (needed : List Bool) : Type 0 where
  pub inputs :
      (at n : ℕ) → n < length (made_cells p plan needed at)
      → All (λ i. IsBrought p plan needed at i ⊎ Contains (take n (made_cells p plan needed at)) i) (cell_at p.cells (slice_index (made_cells p plan needed at) n)).ins
  pub apart : (at : ℕ) → TakeClean (is_early p plan at) p.cells (made_cells p plan needed at)
  pub carried : (at : ℕ) → at ≤ plan.last → All (λ k. IsBrought p plan needed at k ⊎ Contains (made_cells p plan needed at) k) (carried_cells p plan needed at)
  pub answer :
      (k : ℕ) → k < length p.cells → Contains (answer_cells p) k → slice_index plan.rows k ≤ plan.last
      → (is_constant (cell_at p.cells k) ≡ true) ⊎ Contains (carried_cells p plan needed plan.last) k

-- ---- which plans have a place for each cell

-- The lists of each plan are so.
abbrev pub CellsArePlaced : Type 0
CellsArePlaced = (p : ProgramView) (plan : Plan) (needed : List Bool) → AreFormed p.cells → IsPlan p plan → AreNeeded p needed → ArePlaced p plan needed
