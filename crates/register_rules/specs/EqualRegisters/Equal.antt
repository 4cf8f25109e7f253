-- Registers that hold the same in every clock.
use Rattle.std.specs.Prelude.{◌≡◌, ℕ, List, length}
use Rattle.std.proofs.Common.{get_or}
use Rattle.net_core.specs.declared.tree.Word.{Word}
use Rattle.net_core.specs.Nets.{Netlist}
use Rattle.net_core.specs.Value.{nothing}
use Rattle.net_core.specs.Clock.{Stored, first_words, first_stored, after}

-- each register holds what the one that is listed for it holds
pub record AreEqual (d : Netlist) (firsts : List ℕ) (s : Stored) : Type 0 where
  pub count : length s.registers ≡ length (first_words d.declared)
  pub same : (k : ℕ) → get_or s.registers k nothing ≡ get_or s.registers (get_or firsts k k) nothing

-- so it is at first, and after each clock in which it was so
pub record StayEqual (d : Netlist) (firsts : List ℕ) : Type 0 where
  pub begins : AreEqual d firsts (first_stored d)
  pub stays : (ins : List Word) (s : Stored) → AreEqual d firsts s → AreEqual d firsts (after d ins s)
