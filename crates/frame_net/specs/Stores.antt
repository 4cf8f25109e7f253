-- Memories that each take one word in a clock, where a condition holds.
use Rattle.std.specs.Prelude.{ℕ, suc, List, [], ◌∷◌}
use Rattle.net_core.specs.Nets.{Tree, StatementTree, SIf, SStore}
use Rattle.net_core.specs.Value.{word}
use Rattle.block_core.specs.declared.block.BlockMemory.{BlockMemory}

-- when a memory takes which word where
pub record Store (N : Type 0) : Type 0 where
  pub condition : Tree N
  pub at : Tree N
  pub value : Tree N

-- a memory with these widths of its index and of its words, which are 0 at first
abbrev pub widths_memory : ℕ × ℕ → BlockMemory
widths_memory p = record { index = p.0; first = word p.1 0 }

abbrev pub store_statement : {N : Type 0} → ℕ → Store N → StatementTree N
store_statement at r = SIf r.condition (SStore at r.at r.value)

-- the statements that store, from the memory of a number on
abbrev pub store_statements : {N : Type 0} → ℕ → List (Store N) → List (StatementTree N)
store_statements at [] = []
store_statements at (r ∷ rs) = store_statement at r ∷ store_statements (suc at) rs
