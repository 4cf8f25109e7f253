-- Numbers that go with cells: a copy of a cell has the cell's number, and so has what is chosen where edges meet.
use Rattle.std.specs.Prelude.{ℕ, ◌≡◌, ◌<◌, if◌then◌else◌, List, [], ◌∷◌, length, slice_index}
use Rattle.cell_core.specs.declared.operator.Operator.{Operator}
use Rattle.cell_core.specs.declared.operator.Operator.TheVariants.{Wire, Phi}
use Rattle.cell_core.specs.Cells.{CellView, cell_at, on}

-- of bits and cells, one after the other: the number of the first cell whose bit is on, or of the last one
abbrev pub picked : (ℕ → ℕ) → (ℕ → ℕ) → List ℕ → ℕ
picked v u [] = 0
picked v u (e ∷ []) = 0
picked v u (e ∷ x ∷ []) = u x
picked v u (e ∷ x ∷ d ∷ more) = if on (v e) then u x else picked v u (d ∷ more)

abbrev pub Goes : (ℕ → ℕ) → (ℕ → ℕ) → List ℕ → Operator → ℕ → Type 0
Goes v u ins Wire n = n ≡ u (slice_index ins 0)
Goes v u ins Phi n = n ≡ picked v u ins
Goes v u ins op n = Unit {0}

-- With these values of the cells the numbers go with them.
pub record IsFollowed (cells : List CellView) (v u : ℕ → ℕ) : Type 0 where
  pub each : (k : ℕ) → k < length cells → Goes v u (cell_at cells k).ins (cell_at cells k).op (u k)
