-- Which cells may have a pointer, and what stands for the pointers of the others.
use Rattle.std.specs.Prelude.{◌≡◌, ℕ, ◌+◌, ◌*◌, ◌<◌, Bool, true, false, Option, Some, None, List, length, slice_index}
use Rattle.hazard_core.specs.cell_core.declared.operator.Operator.{Operator}
use Rattle.hazard_core.specs.cell_core.declared.operator.Operator.TheVariants.{Wire, Phi, Found}
use Rattle.hazard_core.specs.cell_core.Cells.{CellView, cell_at}
use Rattle.overlay_net.specs.cell_nets.declared.operand.Operand.{Operand}
use Rattle.overlay_net.specs.cell_nets.declared.operand.Operand.TheVariants.{Known}
use Rattle.row_net.specs.Needed.{flag}
use Rattle.hazard_core.specs.HeldRows.Pointing.{ArePointing}

-- a read finds a pointer, copies and joins pass them on
abbrev pub gives_pointer : Operator → Bool
gives_pointer (Found j) = true
gives_pointer Wire = true
gives_pointer Phi = true
gives_pointer op = false

-- Each cell that may have a pointer is flagged, and none whose operator gives none.
pub record AreFlagged (cells : List CellView) (flags : List Bool) : Type 0 where
  pub pointing : ArePointing cells flags
  pub only : (k : ℕ) → flag flags k ≡ true → gives_pointer (cell_at cells k).op ≡ true

-- some input at an odd place is flagged: it comes over an edge
abbrev pub JoinsFlagged : List Bool → List ℕ → Type 0
JoinsFlagged flags ins = (n : ℕ) × (2 * n + 1 < length ins) × (flag flags (slice_index ins (2 * n + 1)) ≡ true)

-- the flag of a cell by those of its inputs
pub record IsFlagged (flags : List Bool) (op : Operator) (ins : List ℕ) (b : Bool) : Type 0 where
  pub found : (j : ℕ) → op ≡ Found j → b ≡ true
  pub wire : op ≡ Wire → flag flags (slice_index ins 0) ≡ true → b ≡ true
  pub phi : op ≡ Phi → JoinsFlagged flags ins → b ≡ true
  pub only : b ≡ true → gives_pointer op ≡ true

-- ---- what stands for the pointers of cells that have none
abbrev pub plain_of : {N : Type 0} → Bool → Option (Operand N)
plain_of true = None
plain_of false = Some (Known 0)
