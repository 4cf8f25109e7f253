-- Where edges meet.
use Rattle.std.specs.Prelude.{ℕ, ◌≡◌, ◌<◌, true, if◌then◌else◌, List, [], ◌∷◌, length, All}
use Rattle.std.proofs.Common.{get_or}
use Rattle.cell_core.specs.Cells.{CellView, on}
use Rattle.operator_cells.specs.declared.joining.Arm.{Arm}

-- the number that goes with what the first edge that is on brings, or else the last one
abbrev pub followed : (ℕ → ℕ) → (ℕ → ℕ) → List Arm → ℕ
followed v u [] = 0
followed v u (a ∷ []) = u a.cell
followed v u (a ∷ b ∷ more) = if on (v a.bit) then u a.cell else followed v u (b ∷ more)

-- and its value
abbrev pub chosen : (ℕ → ℕ) → List Arm → ℕ
chosen v arms = followed v v arms

-- bits and cells, one after the other
abbrev pub flat : List Arm → List ℕ
flat [] = []
flat (a ∷ more) = a.bit ∷ a.cell ∷ flat more

-- there are the cells of edges
abbrev pub AreThere : List CellView → List Arm → Type 0
AreThere cells arms = All (λ a. (a.bit < length cells) × (a.cell < length cells)) arms

-- Where an edge is on, and each edge that is on brings the same number, that number is chosen, whatever the others bring.
abbrev pub ChoiceIsRight : Type 0
ChoiceIsRight = (v : ℕ → ℕ) (arms : List Arm) (n i : ℕ) (d : Arm) → i < length arms → on (v (get_or arms i d).bit) ≡ true → All (λ a. on (v a.bit) ≡ true → v a.cell ≡ n) arms → chosen v arms ≡ n
