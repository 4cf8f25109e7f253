-- Operands of lists.
use Rattle.std.specs.Prelude.{ℕ, List, slice_index, map as map_list}
use Rattle.block_core.specs.net_core.Value.{Env}
use Rattle.cell_nets.specs.declared.operand.Operand.{Operand}
use Rattle.cell_nets.specs.Operands.{number_in}

-- the numbers that operands stand for
abbrev pub numbers_in : {N : Type 0} → Env N → List (Operand N) → List ℕ
numbers_in v args = map_list (number_in v) args

-- that of one by its place, 0 past the last
abbrev pub number_of : {N : Type 0} → List (Operand N) → ℕ → Env N → ℕ
number_of args k v = slice_index (numbers_in v args) k
