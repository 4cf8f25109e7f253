-- The pointers of cells that a place makes, and tables of what stands for pointers.
use Rattle.std.specs.Prelude.{◌≡◌, ℕ, zero, suc, ◌<◌, Bool, true, false, not, if◌then◌else◌, Option, List, [], ◌∷◌, length, take, slice_index, All, Contains}
use Rattle.std.proofs.Common.{◌⊎◌}
use Rattle.net_core.specs.Value.{Env}
use Rattle.overlay_net.specs.cell_core.declared.operator.Operator.{Operator}
use Rattle.overlay_net.specs.cell_core.declared.operator.Operator.TheVariants.{Wire, Phi}
use Rattle.overlay_net.specs.cell_core.Cells.{CellView, cell_at, on}
use Rattle.overlay_net.specs.hazard_core.declared.pointer.Pointer.{Pointer}
use Rattle.overlay_net.specs.hazard_core.declared.pointer.Pointer.TheVariants.{Null}
use Rattle.cell_nets.specs.declared.operand.Operand.{Operand}
use Rattle.cell_nets.specs.Operands.{number_in, IsOperand}
use Rattle.cell_nets.specs.Wires.{HasBits}
use Rattle.overlay_net.specs.SiteOperands.Pointers.{pointer_number}
use Rattle.row_net.specs.Table.{Stands, IsIn}

-- ---- pointers of cells, from the numbers and the pointers that cells have

-- the pointer of the first edge that is on, or of the last
abbrev pub joined_pointer : (ℕ → ℕ) → (ℕ → Pointer) → List ℕ → Pointer
joined_pointer val at [] = Null
joined_pointer val at (e ∷ []) = Null
joined_pointer val at (e ∷ x ∷ []) = at x
joined_pointer val at (e ∷ x ∷ d ∷ more) = if on (val e) then at x else joined_pointer val at (d ∷ more)

-- the pointer of a cell that a place makes: a copy has that of its input, a join that of the edge that is on, any other has none
abbrev pub made_pointer : (ℕ → ℕ) → (ℕ → Pointer) → List ℕ → Operator → Pointer
made_pointer val at ins Wire = at (slice_index ins 0)
made_pointer val at ins Phi = joined_pointer val at ins
made_pointer val at ins op = Null

-- these cells have the pointers that go with them
abbrev pub PointersAre : List CellView → List ℕ → (ℕ → ℕ) → (ℕ → Pointer) → Type 0
PointersAre cells made val at = All (λ k. at k ≡ made_pointer val at (cell_at cells k).ins (cell_at cells k).op) made

-- ---- tables of what stands for pointers

-- The table is as long as the cells, and what stands for a pointer has so many bits.
pub record IsPointers {N : Type 0} (cells : List CellView) (bits : ℕ) (pointers : List (Option (Operand N))) : Type 0 where
  pub count : length pointers ≡ length cells
  pub operand : (k : ℕ) (a : Operand N) → Stands pointers k a → IsOperand a
  pub wide : (k : ℕ) (a : Operand N) → Stands pointers k a → HasBits bits a

-- what stands for the pointer of a cell has its number
abbrev pub HoldsPointers : {N : Type 0} → Env N → List (Option (Operand N)) → (ℕ → Pointer) → Type 0
HoldsPointers v pointers at = (k : ℕ) (a : Operand _) → Stands pointers k a → number_in v a ≡ pointer_number (at k)

-- ---- what the pointer of a cell takes

-- the inputs of a join stand in pairs: the first of a pair is an edge, the second has the pointer
abbrev pub is_edge : ℕ → Bool
is_edge zero = true
is_edge (suc n) = not (is_edge n)

-- the first holds of an edge, and the second of what has the pointer
abbrev pub HoldsOf : (ℕ → Type 0) → (ℕ → Type 0) → Bool → ℕ → Type 0
HoldsOf edge pointer true = edge
HoldsOf edge pointer false = pointer

abbrev pub Takes : (ℕ → Type 0) → (ℕ → Type 0) → Operator → List ℕ → Type 0
Takes edge pointer Wire ins = pointer (slice_index ins 0)
Takes edge pointer Phi ins = (n : ℕ) → n < length ins → HoldsOf edge pointer (is_edge n) (slice_index ins n)
Takes edge pointer op ins = Unit {0}

-- The pointers can be made in this order, after the cells: what each takes is there, or is made before it.
pub record ArePointed {N : Type 0} (cells : List CellView) (table pointers : List (Option (Operand N))) (made made_pointers : List ℕ) : Type 0 where
  pub within : All (λ k. k < length cells) made_pointers
  pub inputs :
      (n : ℕ) → n < length made_pointers
      → Takes (λ i. IsIn table i ⊎ Contains made i) (λ i. IsIn pointers i ⊎ Contains (take n made_pointers) i) (cell_at cells (slice_index made_pointers n)).op (cell_at cells (slice_index made_pointers n)).ins
