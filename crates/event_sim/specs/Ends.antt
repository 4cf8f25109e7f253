-- Where events end: in the values of a clock.
use Rattle.std.specs.Prelude.{◌≡◌, ℕ, ◌^◌, ◌<◌, None, List, [], ◌∷◌, ◌++◌, length, map}
use Rattle.net_core.specs.declared.tree.Word.{Word}
use Rattle.net_core.specs.declared.tree.Net.{Net}
use Rattle.net_core.specs.Nets.{RightTree, Netlist}
use Rattle.net_core.specs.Value.{value}
use Rattle.net_core.specs.Clock.{Stored, env, env_of, with_wires, stopping}
use Rattle.event_sim.specs.Events.{State, right_sides, net_count, event_value, IsQuiet, Happen}

-- nets are valued in text order, each from those before it
abbrev pub with_nets : List Word → Stored → List Word → List (RightTree Net) → List Word
with_nets ins s ws [] = ws
with_nets ins s ws (r ∷ rest) = with_nets ins s (ws ++ event_value (env ins s ws) r ∷ []) rest

-- the values that a clock gives the nets, with 0 where a divisor is zero
abbrev pub settled : State → List Word
settled s = with_nets s.ins s.stored [] (right_sides s.netlist)

-- the values of wires in a clock, and what is assigned to outputs
abbrev pub clock_values : Netlist → List Word → Stored → List Word
clock_values d ins s = with_wires ins s [] d.wires ++ map (λ a. value (env_of d ins s) a.value) d.assigns

-- the nets have the values of a clock
pub record IsSettled (s : State) : Type 0 where
  pub values : s.nets ≡ settled s
  pub clock : stopping s.netlist s.ins s.stored ≡ None → s.nets ≡ clock_values s.netlist s.ins s.stored

-- Every order of events from here on ends, since fewer than 2 to the number of nets can happen, and where no net is active
-- any more the nets have the values of a clock.
pub record Ends (s : State) : Type 0 where
  pub short : (ns : List ℕ) (t : State) → Happen s ns t → length ns < 2 ^ net_count s.netlist
  pub settles : (ns : List ℕ) (t : State) → Happen s ns t → IsQuiet t → IsSettled t

-- the same from any values of nets on
abbrev pub EndsFromAny : State → Type 0
EndsFromAny s = (nets : List Word) → length nets ≡ net_count s.netlist → Ends (record s { nets = nets })
