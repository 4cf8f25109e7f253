-- The first edge that is on is one of the edges.
use Rattle.std.proofs.Common.{ℕ, suc, ◌<◌, ◌≤◌, Bool, true, false, if◌then◌else◌, List, [], ◌∷◌, length, arith}
use Rattle.cell_core.specs.Cells.{on}
use Rattle.operator_cells.specs.declared.held_cells.way.Way.{Way}
use Rattle.edge_cells.specs.Meeting.{first_on}

pub first_below : (v : ℕ → ℕ) (here : List Way) → 1 ≤ length here → first_on v here < length here
first_below v [] h = absurd (omega arith)
first_below v (a ∷ []) h = omega arith
first_below v (a ∷ b ∷ more) h = by (on (v a.bit)) (first_below v (b ∷ more) (omega arith))
  where
    by : (t : Bool) → first_on v (b ∷ more) < length (b ∷ more) → (if t then 0 else suc (first_on v (b ∷ more))) < length (a ∷ b ∷ more)
    by true rest = omega arith
    by false rest = omega (arith, rest)
