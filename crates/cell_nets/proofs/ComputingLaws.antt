-- Operators that are no products.
use Rattle.std.proofs.Common.{◌≡◌, false, refl}
use Rattle.cell_core.specs.declared.operator.Operator.{Operator}
use Rattle.cell_core.specs.declared.operator.Operator.TheVariants.{Mul}
use Rattle.cell_core.specs.Formed.{divides}
use Rattle.cell_nets.specs.Computing.{makes_product}

pub no_divisor : (op : Operator) → makes_product op ≡ false → divides op ≡ false
no_divisor Mul h = refl
no_divisor op h = h
