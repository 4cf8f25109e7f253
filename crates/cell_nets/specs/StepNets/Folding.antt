-- Choices of which it is known what they give.
use Rattle.std.specs.Prelude.{◌≡◌, ℕ, Bool, if◌then◌else◌}
use Rattle.std.proofs.Common.{◌⊎◌}
use Rattle.net_core.specs.Value.{Env}
use Rattle.cell_core.specs.Cells.{bit, on, bits_from}
use Rattle.cell_nets.specs.declared.operand.Operand.{Operand}
use Rattle.cell_nets.specs.Operands.{number_in}

-- In so many bits a choice between two operands is one of them.
pub record IsSettled {N : Type 0} (c a b : Operand N) (w : ℕ) (x : Operand N) : Type 0 where
  pub either : (x ≡ a) ⊎ (x ≡ b)
  pub same : (v : Env N) → bits_from (if on (number_in v c) then number_in v a else number_in v b) 0 w ≡ bits_from (number_in v x) 0 w

-- In so many bits, which is one, a choice between two operands is the condition.
pub record IsTruth {N : Type 0} (a b : Operand N) (w : ℕ) : Type 0 where
  pub one : w ≡ 1
  pub same : (v : Env N) (t : Bool) → bits_from (if t then number_in v a else number_in v b) 0 1 ≡ bit t
