-- Statements that leave nothing of what a register held before them.
use Rattle.std.specs.Prelude.{◌≡◌, ℕ, true, List, nat_eq, slice_set}
use Rattle.std.specs.List.{list_any}
use Rattle.net_core.specs.declared.tree.Word.{Word}
use Rattle.net_core.specs.declared.tree.Net.{Net}
use Rattle.net_core.specs.Nets.{StatementTrees}
use Rattle.net_core.specs.Value.{Env}
use Rattle.net_core.specs.Clock.{Stored, all_done}

-- what is stored differs in this register at most
pub record AgreeBut (k : ℕ) (s t : Stored) : Type 0 where
  pub registers : (w : Word) → slice_set s.registers k w ≡ slice_set t.registers k w
  pub memories : s.memories ≡ t.memories

-- after these statements all is the same whatever this register held
abbrev pub Overwrites : StatementTrees Net → ℕ → Type 0
Overwrites more k = (v : Env Net) (s t : Stored) → AgreeBut k s t → all_done v more s ≡ all_done v more t

-- so it is with each of these registers
abbrev pub AreOverwritten : StatementTrees Net → List ℕ → Type 0
AreOverwritten more registers = (k : ℕ) → list_any (nat_eq k) registers ≡ true → Overwrites more k
