-- Registers that hold words of their sizes in every clock.
use Rattle.std.specs.Prelude.{ℕ, List}
use Rattle.std.proofs.Common.{get_or}
use Rattle.net_core.specs.declared.ports.Inputs.{Inputs}
use Rattle.net_core.specs.Nets.{Netlist}
use Rattle.net_core.specs.Value.{nothing}
use Rattle.net_core.specs.Clock.{Stored, first_stored, after}
use Rattle.net_core.specs.Ports.{words_of}
use Rattle.net_rules.specs.NetSizes.Fitting.{Fits, port_size}

abbrev pub HaveSizes : List ℕ → Stored → Type 0
HaveSizes sizes s = (k : ℕ) → Fits (get_or sizes k 0) (get_or s.registers k nothing)

-- so it is at first, and after each clock in which it was so, whatever stands at the ports
pub record StaySized (d : Netlist) (sizes : List ℕ) : Type 0 where
  pub begins : HaveSizes sizes (first_stored d)
  pub stays : (i : Inputs) (s : Stored) → HaveSizes sizes s → HaveSizes sizes (after d (words_of i) s)

-- what stands at the ports has their sizes
abbrev pub PortsHaveSizes : Type 0
PortsHaveSizes = (i : Inputs) (p : ℕ) → Fits (port_size p) (get_or (words_of i) p nothing)
