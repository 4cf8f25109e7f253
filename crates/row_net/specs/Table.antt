-- What stands for the cells of a program at a place: an operand, or nothing yet.
use Rattle.std.specs.Prelude.{◌≡◌, ℕ, ◌^◌, ◌<◌, ◌==◌, Bool, true, false, ◌||◌, Option, Some, None, IsSome, List, length, slice_index}
use Rattle.std.proofs.Common.{get_or}
use Rattle.net_core.specs.Value.{Env}
use Rattle.overlay_net.specs.xdp_machine.State.{PacketIn}
use Rattle.overlay_net.specs.cell_core.declared.operator.Operator.{Operator}
use Rattle.overlay_net.specs.cell_core.declared.operator.Operator.TheVariants.{Constant}
use Rattle.overlay_net.specs.cell_core.Cells.{CellView, cell_at, value}
use Rattle.cell_nets.specs.declared.operand.Operand.{Operand}
use Rattle.cell_nets.specs.declared.operand.Operand.TheVariants.{Known}
use Rattle.cell_nets.specs.Operands.{number_in, IsOperand, IsAvailable}
use Rattle.cell_nets.specs.Wires.{HasBits}

-- an operand stands for a cell
abbrev pub Stands : {N : Type 0} → List (Option (Operand N)) → ℕ → Operand N → Type 0
Stands table k a = get_or table k None ≡ Some a

-- some operand does
abbrev pub IsIn : {N : Type 0} → List (Option (Operand N)) → ℕ → Type 0
IsIn table k = (a : Operand _) × Stands table k a

-- A table is as long as the cells, and what stands for a cell has its bits.
pub record IsTable {N : Type 0} (cells : List CellView) (table : List (Option (Operand N))) : Type 0 where
  pub count : length table ≡ length cells
  pub operand : (k : ℕ) (a : Operand N) → Stands table k a → IsOperand a
  pub bits : (k : ℕ) (a : Operand N) → Stands table k a → HasBits (cell_at cells k).width a

-- operands stand for inputs, one for each
pub record AreOperands {N : Type 0} (table : List (Option (Operand N))) (ins : List ℕ) (args : List (Operand N)) : Type 0 where
  pub count : length args ≡ length ins
  pub each : (n : ℕ) (d : Operand N) → n < length ins → Stands table (slice_index ins n) (get_or args n d)

-- all that stands for cells is a number or one of these operands
abbrev pub AreThere : {N : Type 0} → List (Operand N) → List (Option (Operand N)) → Type 0
AreThere ins table = (k : ℕ) (a : Operand _) → Stands table k a → IsAvailable ins a

-- what stands for a cell has its value
abbrev pub Holds : {N : Type 0} → Env N → List (Option (Operand N)) → (ℕ → ℕ) → Type 0
Holds v table val = (k : ℕ) (a : Operand _) → Stands table k a → number_in v a ≡ val k

-- ---- what is the same for all packets
abbrev pub is_number : Operator → Bool
is_number (Constant n) = true
is_number op = false

-- a cell of no bits, or a constant
abbrev pub is_constant : CellView → Bool
is_constant c = c.width == 0 || is_number c.op

-- what stands for a cell: a number, its value whatever the packet is, if it is constant, or else nothing
pub record IsConstantOf {N : Type 0} (c : CellView) (o : Option (Operand N)) : Type 0 where
  pub known : is_constant c ≡ true → IsSome o
  pub only : (a : Operand N) → o ≡ Some a → is_constant c ≡ true
  pub number : (a : Operand N) → o ≡ Some a → (n : ℕ) × (a ≡ Known n) × (n < 2 ^ 64) × (n < 2 ^ c.width) × ((packet : PacketIn) (val : ℕ → ℕ) → n ≡ value packet val c)

-- a number stands for each constant cell, its value whatever the packet is, and nothing for others
pub record AreConstants {N : Type 0} (cells : List CellView) (table : List (Option (Operand N))) : Type 0 where
  pub fits : IsTable cells table
  pub known : (k : ℕ) → k < length cells → is_constant (cell_at cells k) ≡ true → IsIn table k
  pub only : (k : ℕ) (a : Operand N) → Stands table k a → is_constant (cell_at cells k) ≡ true
  pub there : (ins : List (Operand N)) → AreThere ins table
  pub value : (v : Env N) (packet : PacketIn) (val : ℕ → ℕ) (k : ℕ) (a : Operand N) → Stands table k a → number_in v a ≡ value packet val (cell_at cells k)
