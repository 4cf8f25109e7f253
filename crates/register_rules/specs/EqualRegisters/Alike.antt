-- Nets that hold the same, where another stands for each.
use Rattle.std.specs.Prelude.{◌≡◌, ℕ, ◌<◌, List, length}
use Rattle.std.proofs.Common.{get_or}
use Rattle.net_core.specs.declared.tree.Word.{Word}
use Rattle.net_core.specs.declared.tree.Net.{Net}
use Rattle.net_core.specs.declared.tree.Net.TheVariants.{Port, Register, Wire}
use Rattle.net_core.specs.Nets.{StatementTree}
use Rattle.net_core.specs.Value.{nothing, Env}
use Rattle.net_core.specs.Clock.{Stored, edge}

-- each place of a list of words holds what the place that is listed for it holds
abbrev pub HoldFirsts : List ℕ → List Word → Type 0
HoldFirsts firsts words = (k : ℕ) → get_or words k nothing ≡ get_or words (get_or firsts k k) nothing

-- Nets for which one stands hold the same in two environments. Of wires it is said of those alone that are listed.
pub record AreAlike (registers left right : List ℕ) (v w : Env Net) : Type 0 where
  pub port : (i : ℕ) → v.net (Port i) ≡ w.net (Port i)
  pub register : (i k : ℕ) → get_or registers i i ≡ get_or registers k k → v.net (Register i) ≡ w.net (Register k)
  pub wire : (i k : ℕ) → i < length left → k < length right → get_or left i i ≡ get_or right k k → v.net (Wire i) ≡ w.net (Wire k)
  pub memory_word : (m : Net) (i : ℕ) → v.memory_word m i ≡ w.memory_word m i

-- A register repeats the one that is listed for it: its first word is that of the other, and an edge leaves them the same where all nets
-- hold what those hold that are listed for them.
pub record Repeats (words : List Word) (registers wires : List ℕ) (always : List (StatementTree Net)) (k : ℕ) : Type 0 where
  pub begins : get_or words k nothing ≡ get_or words (get_or registers k k) nothing
  pub stays : (v : Env Net) (s : Stored) → AreAlike registers wires wires v v → HoldFirsts registers s.registers → length s.registers ≡ length words
      → get_or (edge v always s).registers k nothing ≡ get_or (edge v always s).registers (get_or registers k k) nothing
