-- Clocks that the host gives a design one after the other, and how a call reports them.
use Rattle.std.specs.Prelude.{◌≡◌, ℕ, ◌++◌, ◌∷◌, List, Some, Result, Ok, Err}
use Rattle.net_core.specs.declared.tree.Net.TheVariants.{Wire}
use Rattle.net_core.specs.declared.ports.Inputs.{Inputs}
use Rattle.net_core.specs.Nets.{Netlist}
use Rattle.net_core.specs.Clock.{Stored, stopping}
use Rattle.net_core.specs.Ports.{words_of}
use Rattle.net_core.specs.Trace.{Cycle, NeverStops, stored_after}
use Rattle.clock_sim.specs.declared.sim.XValue.{XValue}
use Rattle.xdp_maps.specs.declared.decl.MapDecl.{MapDecl}
use Rattle.xdp_maps.specs.State.{MapState}
use Rattle.realization.specs.HostHistory.Host.{shown_words, dumped}
use Rattle.port_drive.specs.declared.report.DriveError.{DriveError}
use Rattle.port_drive.specs.declared.report.DriveError.TheVariants.{X, Late, NoMemory}

-- Of these clocks one is the first in which a divisor is zero: that of this wire. The clocks before it leave t.
pub record StopsAt (d : Netlist) (s : Stored) (clocks : List Inputs) (wire : ℕ) (t : Stored) : Type 0 where
  pub before : List Inputs
  pub at : Inputs
  pub behind : List Inputs
  pub all : clocks ≡ before ++ at ∷ behind
  pub goes : NeverStops d s before
  pub left : t ≡ stored_after d s before
  pub stops : stopping d (words_of at) t ≡ Some wire

-- a call that gives a design these clocks, and what it leaves: all of them, or those before the first that stops
abbrev pub Clocks : {A : Type 0} → Netlist → Stored → List Inputs → Result A XValue → Stored → Type 0
Clocks d s clocks (Ok a) t = NeverStops d s clocks × (t ≡ stored_after d s clocks)
Clocks d s clocks (Err x) t = (wire : ℕ) × StopsAt d s clocks wire t × (x.net ≡ Wire wire)

-- the same of a call that takes memory first: out of memory there was no clock
abbrev pub ClocksOrNone : {A : Type 0} → Netlist → Stored → List Inputs → Result A DriveError → Stored → Type 0
ClocksOrNone d s clocks (Ok a) t = NeverStops d s clocks × (t ≡ stored_after d s clocks)
ClocksOrNone d s clocks (Err (X x)) t = (wire : ℕ) × StopsAt d s clocks wire t × (x.net ≡ Wire wire)
ClocksOrNone d s clocks (Err (Late answers frames limit)) t = ⊥
ClocksOrNone d s clocks (Err NoMemory) t = t ≡ s

-- the maps of these declarations that the host is shown
abbrev pub shown_maps : List MapDecl → List Cycle → MapState
shown_maps decls ms = record { decls = decls; contents = dumped decls (shown_words ms) }

-- these maps, unless there was no memory for them
abbrev pub AreGiven : MapState → Result MapState DriveError → Type 0
AreGiven maps (Ok given) = given ≡ maps
AreGiven maps (Err (X x)) = ⊥
AreGiven maps (Err (Late answers frames limit)) = ⊥
AreGiven maps (Err NoMemory) = Unit {0}
