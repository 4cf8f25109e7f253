-- What stands among operands is available over them.
use Rattle.std.specs.Prelude.{Contains}
use Rattle.std.proofs.Common.{List, inr}
use Rattle.cell_nets.specs.declared.operand.Operand.{Operand}
use Rattle.cell_nets.specs.declared.operand.Operand.TheVariants.{Known, Net, Part}
use Rattle.cell_nets.specs.Operands.{IsAvailable}

pub available : {N : Type 0} (ins : List (Operand N)) (a : Operand N) → Contains ins a → IsAvailable ins a
available ins (Known n) c = tt
available ins (Net n w) c = c
available ins (Part n of from w) c = inr (from, w, c)
