-- What flat steps give. Slots and memories hold numbers; a step writes one slot.
use Rattle.std.specs.Prelude.{ℕ, ◌+◌, ◌-◌, ◌*◌, ◌/◌, ◌%◌, ◌^◌, ◌==◌, nat_lt, nat_le, if◌then◌else◌, true, false, Bool, List, [], ◌∷◌, slice_set, bit_and, bit_or, bit_xor}
use Rattle.std.proofs.Common.{get_or}
use Rattle.net_core.specs.declared.tree.Op.{Op}
use Rattle.net_core.specs.declared.tree.Op.TheVariants as op
use Rattle.net_core.specs.Value.{number_of}
use Rattle.clock_sim.specs.declared.step.Step.{Step}
use Rattle.clock_sim.specs.declared.step.Opcode.{Opcode}
use Rattle.clock_sim.specs.declared.step.Opcode.TheVariants.{Add, Subtract, Multiply, And, Or, Xor, ShiftLeft, ShiftRight, Equal, NotEqual, Less, LessEqual, Complement, ReduceOr, PartSelect, Concatenation, Conditional, Fetch, Quotient, Remainder}

-- of two operands x and y, with the step's number n and shift h
abbrev pub worked : Opcode → List (List ℕ) → List ℕ → ℕ → ℕ → ℕ → ℕ → ℕ
worked Add contents slots n h x y = bit_and ((x + y) % 2 ^ 64) n
worked Subtract contents slots n h x y = bit_and ((x + (2 ^ 64 - y)) % 2 ^ 64) n
worked Multiply contents slots n h x y = bit_and (x * y % 2 ^ 64) n
worked And contents slots n h x y = bit_and x y
worked Or contents slots n h x y = bit_or x y
worked Xor contents slots n h x y = bit_xor x y
worked ShiftLeft contents slots n h x y = if nat_lt y 64 then bit_and (x * 2 ^ y % 2 ^ 64) n else 0
worked ShiftRight contents slots n h x y = if nat_lt y 64 then x / 2 ^ y else 0
worked Equal contents slots n h x y = number_of (x == y)
worked NotEqual contents slots n h x y = number_of (if x == y then false else true)
worked Less contents slots n h x y = number_of (nat_lt x y)
worked LessEqual contents slots n h x y = number_of (nat_le x y)
worked Complement contents slots n h x y = n - x
worked ReduceOr contents slots n h x y = number_of (if x == 0 then false else true)
worked PartSelect contents slots n h x y = bit_and (x / 2 ^ (h % 64)) n
worked Concatenation contents slots n h x y = (x * 2 ^ (h % 64) % 2 ^ 64 + y) % 2 ^ 64
worked Conditional contents slots n h x y = if x == 0 then get_or slots n 0 else y
worked Fetch contents slots n h x y = get_or (get_or contents n []) x 0
worked Quotient contents slots n h x y = x / y
worked Remainder contents slots n h x y = x % y

abbrev pub given : List (List ℕ) → List ℕ → Step → ℕ
given contents slots s = worked s.opcode contents slots s.number s.shift (get_or slots s.a 0) (get_or slots s.b 0)

-- the slots after these steps, one after another
abbrev pub run : List (List ℕ) → List Step → List ℕ → List ℕ
run contents [] slots = slots
run contents (s ∷ rest) slots = run contents rest (slice_set slots s.to (given contents slots s))

-- ---- operators
abbrev pub opcode_of : Op → Opcode
opcode_of op.Add = Add
opcode_of op.Sub = Subtract
opcode_of op.Mul = Multiply
opcode_of op.And = And
opcode_of op.Or = Or
opcode_of op.Xor = Xor
opcode_of op.ShiftLeft = ShiftLeft
opcode_of op.ShiftRight = ShiftRight
opcode_of op.Equal = Equal
opcode_of op.NotEqual = NotEqual
opcode_of op.Less = Less
opcode_of op.LessEqual = LessEqual
opcode_of op.Greater = Less
opcode_of op.GreaterEqual = LessEqual

-- it asks the question of its operands turned about
abbrev pub op_swaps : Op → Bool
op_swaps op.Greater = true
op_swaps op.GreaterEqual = true
op_swaps _ = false
