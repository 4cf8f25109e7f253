-- Designs that show the same from the first clock on.
use Rattle.std.specs.Prelude.{◌≡◌, ℕ, None, List}
use Rattle.net_core.specs.declared.tree.Word.{Word}
use Rattle.net_core.specs.declared.ports.Inputs.{Inputs}
use Rattle.net_core.specs.Nets.{Netlist}
use Rattle.net_core.specs.Clock.{Stored, first_stored, shown, after, stopping}
use Rattle.net_core.specs.Ports.{words_of}
use Rattle.net_core.specs.Trace.{stored_after}

-- what is stored after these clocks, from the declared values on
abbrev pub reached : Netlist → List Inputs → Stored
reached d is = stored_after d (first_stored d) is

-- Whatever stood at the inputs in the clocks before and stands there now, the second design shows what the first one shows, and no divisor
-- of it is zero where none of the first one is.
pub record ShowTheSame (a b : Netlist) : Type 0 where
  pub shows : (is : List Inputs) (i : Inputs) (port : ℕ) → shown b (words_of i) (reached b is) port ≡ shown a (words_of i) (reached a is) port
  pub goes : (is : List Inputs) (i : Inputs) → stopping a (words_of i) (reached a is) ≡ None → stopping b (words_of i) (reached b is) ≡ None

-- A relation of what two designs store which holds at first and after each clock, and in which the second design shows what the first one
-- shows and does not stop where that one does not.
pub record Follows (a b : Netlist) (related : Stored → Stored → Type 0) : Type 0 where
  pub begins : related (first_stored a) (first_stored b)
  pub shows : (ins : List Word) (s t : Stored) → related s t → (port : ℕ) → shown b ins t port ≡ shown a ins s port
  pub stores : (ins : List Word) (s t : Stored) → related s t → related (after a ins s) (after b ins t)
  pub goes : (ins : List Word) (s t : Stored) → related s t → stopping a ins s ≡ None → stopping b ins t ≡ None
