-- What stands at the ports of a design in a list of clocks, and what is stored after them.
use Rattle.std.specs.Prelude.{◌≡◌, ℕ, ◌^◌, ◌<◌, false, None, List, [], ◌∷◌}
use Rattle.net_core.specs.declared.ports.Inputs.{Inputs}
use Rattle.net_core.specs.declared.ports.Outputs.{Outputs}
use Rattle.net_core.specs.Nets.{Netlist}
use Rattle.net_core.specs.Clock.{Stored, after, stopping}
use Rattle.net_core.specs.Ports.{words_of, outputs_of}

-- one clock: what stood at the inputs, and what the outputs showed
pub record Cycle : Type 0 where
  pub given : Inputs
  pub shown : Outputs

abbrev pub cycle_of : Netlist → Stored → Inputs → Cycle
cycle_of d s i = record { given = i; shown = outputs_of d i s }

-- no divisor is zero in any of these clocks
abbrev pub NeverStops : Netlist → Stored → List Inputs → Type 0
NeverStops d s [] = Unit {0}
NeverStops d s (i ∷ is) = (stopping d (words_of i) s ≡ None) × NeverStops d (after d (words_of i) s) is

-- the clocks of a design that never stops, from what is stored on
abbrev pub trace : Netlist → Stored → List Inputs → List Cycle
trace d s [] = []
trace d s (i ∷ is) = cycle_of d s i ∷ trace d (after d (words_of i) s) is

-- what is stored after these clocks
abbrev pub stored_after : Netlist → Stored → List Inputs → Stored
stored_after d s [] = s
stored_after d s (i ∷ is) = stored_after d (after d (words_of i) s) is

-- ---- what may stand at the inputs
-- each number is below 2 to the width of its port
pub record IsInput (i : Inputs) : Type 0 where
  pub in_data : i.in_data < 2 ^ 64
  pub in_bytes : i.in_bytes < 2 ^ 4
  pub in_ifindex : i.in_ifindex < 2 ^ 32
  pub in_time : i.in_time < 2 ^ 64
  pub host_map : i.host_map < 2 ^ 4
  pub host_index : i.host_index < 2 ^ 16
  pub host_word : i.host_word < 2 ^ 4
  pub host_data : i.host_data < 2 ^ 64

-- the host neither reads nor writes
pub record IsSilent (i : Inputs) : Type 0 where
  pub host_write : i.host_write ≡ false
  pub host_map : i.host_map ≡ 0
  pub host_index : i.host_index ≡ 0
  pub host_word : i.host_word ≡ 0
  pub host_data : i.host_data ≡ 0
