-- Which operators are computed, and how.
use Rattle.std.specs.Prelude.{◌≡◌, ◌≢◌, Bool, true, false, not, if◌then◌else◌, Some, None, List, take, slice_index, map as map_list}
use Rattle.net_core.specs.declared.tree.Op.{Op}
use Rattle.net_core.specs.Value.{Env}
use Rattle.cell_core.specs.declared.operator.Operator.{Operator}
use Rattle.cell_core.specs.declared.operator.Operator.TheVariants.{Constant, Byte, Length, Ifindex, Time, Wire, Later, Join, Any, Phi, Quotient, Remainder, Mul, ShiftRight, Found, Answer, Pending}
use Rattle.cell_core.specs.Formed.{divides}
use Rattle.cell_nets.specs.declared.operand.Operand.{Operand}
use Rattle.cell_nets.specs.Narrow.{narrow_op, test_op}
use Rattle.cell_nets.specs.Operands.{number_in}

-- whether the packet or the maps give its number
abbrev pub is_outside : Operator → Bool
is_outside (Byte i) = true
is_outside Length = true
is_outside Ifindex = true
is_outside Time = true
is_outside (Found site) = true
is_outside (Answer site) = true
is_outside op = false

-- where it divides, its second operand is not 0
abbrev pub HasDivisor : {N : Type 0} → Operator → List (Operand N) → Env N → Type 0
HasDivisor op args v = divides op ≡ true → slice_index (map_list (number_in v) args) 1 ≢ 0

-- an operation on operands: no number, and none of them as it is
abbrev pub is_operation : Operator → Bool
is_operation (Constant n) = false
is_operation Wire = false
is_operation Later = false
is_operation Pending = false
is_operation op = not (is_outside op)

-- it takes all its operands
abbrev pub takes_all : Operator → Bool
takes_all (Join bits) = true
takes_all Any = true
takes_all Phi = true
takes_all op = false

-- it may take more wires than one
abbrev pub is_wired : Operator → Bool
is_wired ShiftRight = true
is_wired Quotient = true
is_wired Remainder = true
is_wired op = takes_all op

-- it is a product, a quotient or a remainder
abbrev pub makes_product : Operator → Bool
makes_product Mul = true
makes_product op = divides op

-- what it takes of a list: of a quotient or a remainder two, of others all
abbrev pub taken : {X : Type 0} → Operator → List X → List X
taken op xs = if divides op then take 2 xs else xs

-- an operation or a comparison of two operands
abbrev pub IsPair : Operator → Type 0
IsPair op = test_op op ≡ None → (o : Op) × (narrow_op op ≡ Some o)
