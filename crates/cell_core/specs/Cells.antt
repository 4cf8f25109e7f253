-- Cells: operators on the values of earlier cells.
use Rattle.std.specs.Prelude.{ℕ, ◌≡◌, ◌+◌, ◌-◌, ◌*◌, ◌/◌, ◌^◌, ◌<◌, ◌==◌, Option, Some, None, Bool, true, false, not, if◌then◌else◌, List, [], ◌∷◌, length, slice_index, fold, map as map_list}
use Rattle.std.specs.List.{list_any}
use Rattle.std.proofs.Common.{get_or}
use Rattle.xdp_state.specs.bits_core.Bits.{sext_of}
use Rattle.xdp_state.specs.bpf_isa.declared.operation.AluCode.{AluCode}
use Rattle.xdp_state.specs.bpf_isa.declared.operation.AluCode.TheVariants as alu
use Rattle.xdp_state.specs.bpf_isa.declared.operation.JumpCode.{JumpCode}
use Rattle.xdp_state.specs.bpf_isa.declared.operation.JumpCode.TheVariants as jump
use Rattle.xdp_state.specs.xdp_machine.Arithmetic.{low, arithmetic, holds}
use Rattle.xdp_state.specs.xdp_machine.State.{PacketIn}
use Rattle.cell_core.specs.declared.operator.Operator.{Operator}
use Rattle.cell_core.specs.declared.operator.Operator.TheVariants.{Constant, Byte, Length, Ifindex, Time, Wire, Later, Join, SignExtend, Not, And, Or, Xor, Any, Select, Phi, Difference, Quotient, Remainder, Add, Sub, Mul, ShiftLeft, ShiftRight, Equal, Less, LessOrEqual, NonZero, Found, Answer, Pending}

-- a cell, without the places in memory where it lies
pub record CellView : Type 0 where
  pub op : Operator
  pub ins : List ℕ
  pub width : ℕ
  pub from : ℕ

-- what stands for a cell past the last
abbrev pub no_cell : CellView
no_cell = record { op = Pending; ins = []; width = 0; from = 0 }

abbrev pub cell_at : List CellView → ℕ → CellView
cell_at cells k = get_or cells k no_cell

-- whether the maps give its value
abbrev pub is_read : Operator → Bool
is_read (Found site) = true
is_read (Answer site) = true
is_read op = false

-- the site that a read is of
abbrev pub site_in : Operator → Option ℕ
site_in (Found j) = Some j
site_in (Answer j) = Some j
site_in op = None

-- whether its value is there a row after those of its inputs
abbrev pub is_heavy : Operator → Bool
is_heavy Later = true
is_heavy Add = true
is_heavy Sub = true
is_heavy Mul = true
is_heavy ShiftLeft = true
is_heavy ShiftRight = true
is_heavy Equal = true
is_heavy Less = true
is_heavy LessOrEqual = true
is_heavy NonZero = true
is_heavy (Found site) = true
is_heavy (Answer site) = true
is_heavy op = false

abbrev pub bit : Bool → ℕ
bit b = if b then 1 else 0

-- whether a number counts as 1
abbrev pub on : ℕ → Bool
on n = not (n == 0)

-- numbers above one another, the first the highest, each so many bits above the next
abbrev pub joined : ℕ → List ℕ → ℕ
joined bits xs = fold (λ higher x. low 64 (low 64 (higher * 2 ^ bits) + x)) 0 xs

-- of pairs, the second of the first whose first is not 0, or else of the last
abbrev pub phi : List ℕ → ℕ
phi [] = 0
phi (e ∷ []) = 0
phi (e ∷ x ∷ []) = x
phi (e ∷ x ∷ d ∷ more) = if on e then x else phi (d ∷ more)

-- arithmetic and comparisons of 64 bits, on the first two numbers
abbrev pub calculated : AluCode → List ℕ → ℕ
calculated code xs = arithmetic code false 64 (low 64 (slice_index xs 0)) (low 64 (slice_index xs 1))

abbrev pub compared : JumpCode → List ℕ → ℕ
compared code xs = bit (holds code 64 (low 64 (slice_index xs 0)) (low 64 (slice_index xs 1)))

-- The number of an operator on the values of its inputs, for a packet. That of a read is not here.
abbrev pub number : PacketIn → Operator → List ℕ → ℕ
number packet (Constant n) xs = n
number packet (Byte i) xs = slice_index packet.frame i
number packet Length xs = length packet.frame
number packet Ifindex xs = packet.ifindex
number packet Time xs = packet.time
number packet Wire xs = slice_index xs 0
number packet Later xs = slice_index xs 0
number packet (Join bits) xs = joined bits xs
number packet (SignExtend bits) xs = sext_of (low bits (slice_index xs 0)) bits
number packet Not xs = 2 ^ 64 - 1 - slice_index xs 0
number packet And xs = calculated alu.And xs
number packet Or xs = calculated alu.Or xs
number packet Xor xs = calculated alu.Xor xs
number packet Any xs = bit (list_any on xs)
number packet Select xs = if on (slice_index xs 0) then slice_index xs 1 else slice_index xs 2
number packet Phi xs = phi xs
number packet Difference xs = calculated alu.Sub xs
number packet Quotient xs = calculated alu.Div xs
number packet Remainder xs = calculated alu.Mod xs
number packet Add xs = calculated alu.Add xs
number packet Sub xs = calculated alu.Sub xs
number packet Mul xs = calculated alu.Mul xs
number packet ShiftLeft xs = calculated alu.Lsh xs
number packet ShiftRight xs = calculated alu.Rsh xs
number packet Equal xs = compared jump.Jeq xs
number packet Less xs = compared jump.Jlt xs
number packet LessOrEqual xs = compared jump.Jle xs
number packet NonZero xs = if on (slice_index xs 0) then slice_index xs 0 else 1
number packet (Found site) xs = 0
number packet (Answer site) xs = 0
number packet Pending xs = 0

-- so many bits of a number, from one on
abbrev pub bits_from : ℕ → ℕ → ℕ → ℕ
bits_from n from width = low width (n / 2 ^ from)

-- the values that a list has for cells, 0 past its end
abbrev pub value_in : List ℕ → ℕ → ℕ
value_in values k = slice_index values k

-- the value of a cell that is no read, from those of the cells
abbrev pub value : PacketIn → (ℕ → ℕ) → CellView → ℕ
value packet v c = bits_from (number packet c.op (map_list v c.ins)) c.from c.width

-- A value of a cell is its operator's on the values of its inputs. Of a read it may be any that fits: this says whatever
-- the maps hold, also for reads off the path.
abbrev pub Solves_as : Bool → PacketIn → (ℕ → ℕ) → CellView → ℕ → Type 0
Solves_as true packet v c x = x < 2 ^ c.width
Solves_as false packet v c x = x ≡ value packet v c

-- The numbers are values of the cells, for a packet.
pub record IsRun (packet : PacketIn) (cells : List CellView) (v : ℕ → ℕ) : Type 0 where
  pub each : (k : ℕ) → k < length cells → Solves_as (is_read (cell_at cells k).op) packet v (cell_at cells k) (v k)
