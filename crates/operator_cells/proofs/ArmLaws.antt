-- The rows of what edges bring.
use Rattle.std.proofs.Common.{ℕ, ◌≤◌, List, [], ◌∷◌, length, get_or, arith}
use Rattle.cell_core.specs.Rows.{greatest}
use Rattle.operator_cells.specs.declared.joining.Arm.{Arm}
use Rattle.operator_cells.specs.Joining.{flat}

-- what the first edge brings stands in no later row than all
pub flat_first : (row : ℕ → ℕ) (arms : List Arm) (d : Arm) → 1 ≤ length arms → row (get_or arms 0 d).cell ≤ greatest row (flat arms)
flat_first row [] d h = absurd (omega arith)
flat_first row (a ∷ more) d h = omega arith
