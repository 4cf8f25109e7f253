-- Operators that are computed on as many bits as their cells have.
use Rattle.std.specs.Prelude.{Option, Some, None}
use Rattle.net_core.specs.declared.tree.Op.{Op}
use Rattle.net_core.specs.declared.tree.Op.TheVariants as net
use Rattle.cell_core.specs.declared.operator.Operator.{Operator}
use Rattle.cell_core.specs.declared.operator.Operator.TheVariants.{And, Or, Xor, Difference, Add, Sub, Mul, Equal, Less, LessOrEqual}

-- the operators whose low bits are those of an operation on the low bits of two inputs, and this operation
abbrev pub narrow_op : Operator → Option Op
narrow_op And = Some net.And
narrow_op Or = Some net.Or
narrow_op Xor = Some net.Xor
narrow_op Difference = Some net.Sub
narrow_op Add = Some net.Add
narrow_op Sub = Some net.Sub
narrow_op Mul = Some net.Mul
narrow_op op = None

-- the operators that compare two inputs, and their comparison
abbrev pub test_op : Operator → Option Op
test_op Equal = Some net.Equal
test_op Less = Some net.Less
test_op LessOrEqual = Some net.LessEqual
test_op op = None
