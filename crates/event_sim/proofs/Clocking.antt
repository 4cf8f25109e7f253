-- What holds of the state that an edge begins with holds of the simulator's clock.
use Rattle.std.proofs.Common.{◌≡◌, List, subst}
use Rattle.net_core.specs.declared.tree.Word.{Word}
use Rattle.net_core.specs.Nets.{Netlist}
use Rattle.net_core.specs.Clock.{Stored}
use Rattle.clock_sim.specs.Running.{Running}
use Rattle.event_sim.specs.Events.{State}
use Rattle.event_sim.specs.Ends.{settled}

-- after other inputs, and a settling
pub as_clock : (P : Netlist → List Word → Stored → Type 0) (r : Running) (old set now : State) (ins : List Word) → record { netlist = old.netlist; stored = old.stored } ≡ r → set ≡ record old { ins = ins } → now ≡ record set { nets = settled set }
    → P now.netlist now.ins now.stored → P r.netlist ins r.stored
as_clock P r old set now ins view sets settles h =
    subst (λ (x : Running). P x.netlist ins x.stored) view
    (subst (λ (x : State). P x.netlist x.ins x.stored) sets (subst (λ (x : State). P x.netlist x.ins x.stored) settles h))
