-- The first slot that passes a test, by its number.
use Rattle.std.specs.Prelude.{ℕ, zero, suc, ◌+◌, ◌-◌, ◌*◌, ◌<◌, ◌==◌, nat_lt, Bool, ◌&&◌, not, if◌then◌else◌, All, List, length}
use Rattle.std.proofs.Common.{get_or}
use Rattle.net_core.specs.Nets.{Tree, TConditional}
use Rattle.net_core.specs.Value.{Env}
use Rattle.overlay_net.specs.cell_core.Cells.{bit, on, bits_from}
use Rattle.array_net.specs.Words.{word_width}
use Rattle.cell_nets.specs.declared.operand.Operand.{Operand}
use Rattle.cell_nets.specs.declared.operand.Operand.TheVariants.{Known}
use Rattle.cell_nets.specs.Operands.{number_in, IsAvailable}
use Rattle.cell_nets.specs.Parts.{IsPart}
use Rattle.hash_net.specs.declared.slot_net.choosing.Numbering.{Numbering}
use Rattle.hash_net.specs.declared.slot_net.choosing.Numbering.TheVariants.{Pointers, Slots}
use Rattle.hash_net.specs.SlotNet.Slots.{SlotOperands}

-- the number that stands for a slot: that of a pointer to it, or its own
abbrev pub number_at : Numbering → ℕ → ℕ
number_at Pointers n = 4 * n + 1
number_at Slots n = n

-- whether a slot passes, by its test: where pointers stand for slots each that is hit, and else each that is not
abbrev pub passes : Numbering → Bool → Bool
passes Pointers b = b
passes Slots b = not b

-- of so many slots, from one on, the number of the first that is hit, or what stands for none
abbrev pub chosen : (ℕ → ℕ) → (ℕ → Bool) → ℕ → ℕ → ℕ → ℕ
chosen number hit none at zero = none
chosen number hit none at (suc left) = if hit at then number at else chosen number hit none (suc at) left

-- the number of the first that passes
abbrev pub first_passed : Numbering → (ℕ → Bool) → ℕ → ℕ → ℕ → ℕ
first_passed k hit none at left = chosen (number_at k) (λ n. passes k (hit n)) none at left

-- the number of a slot where it passes, or else the rest
abbrev pub choice_tree : {N : Type 0} → Numbering → Tree N → Tree N → Tree N → Tree N
choice_tree Pointers test number rest = TConditional test number rest
choice_tree Slots test number rest = TConditional test rest number

-- Expressions of one bit over operands: whether each slot is hit, from one on.
pub record AreTests {N : Type 0} (args : List (Operand N)) (hit : ℕ → Env N → Bool) (first : ℕ) (ts : List (Tree N)) : Type 0 where
  pub each : (ins : List (Operand N)) (n : ℕ) (d : Tree N) → All (IsAvailable ins) args → n < length ts → IsPart ins 8 1 (λ v. bit (hit (first + n) v)) (get_or ts n d)

-- what stands for an operand past the last
abbrev pub operand_at : {N : Type 0} → List (Operand N) → ℕ → Operand N
operand_at xs w = get_or xs w (Known 0)

-- whether two operands have the same low bits
abbrev pub same_bits : {N : Type 0} → Env N → ℕ → Operand N → Operand N → Bool
same_bits v width a b = bits_from (number_in v a) 0 width == bits_from (number_in v b) 0 width

-- whether a slot is used, and so many words of its key are those of a key of so many bytes
abbrev pub is_under : {N : Type 0} → Env N → ℕ → List (Operand N) → SlotOperands N → ℕ → Bool
is_under v bytes key n zero = on (number_in v n.used)
is_under v bytes key n (suc w) = is_under v bytes key n w && same_bits v (word_width bytes w) (operand_at n.key w) (operand_at key w)

abbrev pub is_used : {N : Type 0} → Env N → SlotOperands N → Bool
is_used v n = on (number_in v n.used)

-- the number of the pointer to the slot of an index, by its four bytes
abbrev pub indexed_pointer : ℕ → ℕ → ℕ → ℕ
indexed_pointer cap bits n = if nat_lt (bits_from n 0 32) cap then bits_from n 0 (bits - 2) * 4 + 1 else 0
