-- Expressions that are made of one operand after another.
use Rattle.std.specs.Prelude.{◌≡◌, ℕ, ◌+◌, ◌-◌, ◌*◌, ◌/◌, ◌<◌, ◌≤◌, All, List, length, drop, map as map_list}
use Rattle.net_core.specs.Nets.{Tree}
use Rattle.cell_core.specs.Cells.{bits_from, phi}
use Rattle.cell_nets.specs.declared.operand.Operand.{Operand}
use Rattle.cell_nets.specs.Operands.{IsAvailable, number_in}
use Rattle.cell_nets.specs.Parts.{IsPart}

-- the choice among the pairs of operands from a place on
pub record IsChosen {N : Type 0} (args : List (Operand N)) (width at : ℕ) (t : Tree N) : Type 0 where
  pub within : at ≤ length args
  pub even : at ≡ at / 2 * 2
  pub some : 0 < at → at < length args
  pub part : (ins : List (Operand N)) → All (IsAvailable ins) args → IsPart ins (3 + (length args - at)) width (λ v. bits_from (phi (map_list (number_in v) (drop at args))) 0 width) t
