-- What code does that adds cells to a list.
use Rattle.std.specs.Prelude.{ℕ, ◌≡◌, ◌⊎◌, Bool, true, false, Some, ◌<◌, ◌≤◌, List, [], ◌∷◌, ◌++◌, length, map as map_list}
use Rattle.cell_core.specs.bpf_isa.declared.operation.AluCode.{AluCode}
use Rattle.cell_core.specs.bpf_isa.declared.operation.AluCode.TheVariants as alu
use Rattle.cell_core.specs.xdp_machine.State.{PacketIn}
use Rattle.cell_core.specs.declared.cell.Cell.{Cell}
use Rattle.cell_core.specs.declared.operator.Operator.{Operator}
use Rattle.cell_core.specs.declared.operator.Operator.TheVariants as op
use Rattle.cell_core.specs.Cells.{CellView, IsRun, cell_at, site_in, number, bits_from}
use Rattle.cell_core.specs.Formed.{AreFormed}
use Rattle.cell_core.specs.View.{cell_of}

-- cells, without the places in memory where they lie
unfoldable pub seen : List Cell → List CellView
seen cells = map_list cell_of cells

-- one more cell, after the others
pub record Adds (old new : List CellView) (c : ℕ) (cell : CellView) : Type 0 where
  pub is : new ≡ old ++ cell ∷ []
  pub at : c ≡ length old

-- a number that is not 0 takes no cells, not even for its row
abbrev pub IsAlone : Operator → List ℕ → Type 0
IsAlone (op.Constant n) ins = (n ≡ 0) ⊎ (ins ≡ [])
IsAlone op ins = Unit {0}

-- so are all numbers among cells
abbrev pub NumbersAreAlone : List CellView → Type 0
NumbersAreAlone cells = (k : ℕ) → k < length cells → IsAlone (cell_at cells k).op (cell_at cells k).ins

-- More cells: those that were there stay, and keep to what cells keep to, and numbers to taking no cells; values of all are values of those; of the new
-- ones that read sites this holds, by their number and the site's.
pub record GrowsWith (MayRead : ℕ → ℕ → Type 0) (old new : List CellView) : Type 0 where
  pub longer : length old ≤ length new
  pub kept : (k : ℕ) → k < length old → cell_at new k ≡ cell_at old k
  pub formed : AreFormed old → AreFormed new
  pub alone : NumbersAreAlone old → NumbersAreAlone new
  pub run : (packet : PacketIn) (v : ℕ → ℕ) → IsRun packet new v → IsRun packet old v
  pub reads : (k j : ℕ) → length old ≤ k → k < length new → site_in (cell_at new k).op ≡ Some j → MayRead k j

-- The same where no new cell reads a site.
abbrev pub Grows : List CellView → List CellView → Type 0
Grows old new = GrowsWith (λ k j. ⊥) old new

-- The same, and a cell among them whose value in every run is this.
pub record Makes (old new : List CellView) (c : ℕ) (is : PacketIn → (ℕ → ℕ) → ℕ) : Type 0 where
  pub grows : Grows old new
  pub there : c < length new
  pub value : (packet : PacketIn) (v : ℕ → ℕ) → IsRun packet new v → v c ≡ is packet v

-- what an operator makes of the values of its inputs, cut to a width
abbrev pub operated : Operator → List ℕ → ℕ → ℕ → PacketIn → (ℕ → ℕ) → ℕ
operated op ins from width packet v = bits_from (number packet op (map_list v ins)) from width

-- the arithmetic that is one operator, and which it is
abbrev pub is_one : AluCode → Bool
is_one alu.Add = true
is_one alu.Sub = true
is_one alu.Mul = true
is_one alu.Or = true
is_one alu.And = true
is_one alu.Xor = true
is_one c = false

abbrev pub operator_of : AluCode → Operator
operator_of alu.Add = op.Add
operator_of alu.Sub = op.Sub
operator_of alu.Mul = op.Mul
operator_of alu.Or = op.Or
operator_of alu.Xor = op.Xor
operator_of c = op.And

-- The same where something holds of the values of cells that were there.
pub record MakesIf (old new : List CellView) (c : ℕ) (P : (ℕ → ℕ) → Type 0) (is : PacketIn → (ℕ → ℕ) → ℕ) : Type 0 where
  pub grows : Grows old new
  pub there : c < length new
  pub value : (packet : PacketIn) (v : ℕ → ℕ) → IsRun packet new v → P v → v c ≡ is packet v
