-- What holds of all designs that show the same.
use Rattle.std.specs.Prelude.{List}
use Rattle.net_core.specs.declared.ports.Inputs.{Inputs}
use Rattle.net_core.specs.Nets.{Netlist}
use Rattle.net_core.specs.Clock.{Stored, first_stored}
use Rattle.net_core.specs.Trace.{NeverStops}
use Rattle.net_core.specs.SameClocks.Same.{ShowTheSame, Follows}

abbrev pub DesignsShowTheirOwn : Type 0
DesignsShowTheirOwn = (a : Netlist) → ShowTheSame a a

abbrev pub SameInTurn : Type 0
SameInTurn = (a b c : Netlist) → ShowTheSame a b → ShowTheSame b c → ShowTheSame a c

abbrev pub SameNeverStops : Type 0
SameNeverStops = (a b : Netlist) → ShowTheSame a b → (is : List Inputs) → NeverStops a (first_stored a) is → NeverStops b (first_stored b) is

-- Designs of which some relation of what they store is kept show the same.
abbrev pub FollowersShowTheSame : Type 1
FollowersShowTheSame = (a b : Netlist) (related : Stored → Stored → Type 0) → Follows a b related → ShowTheSame a b
