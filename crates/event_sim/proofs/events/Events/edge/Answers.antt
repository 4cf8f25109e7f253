use Rattle.std.proofs.Common.{◌≡◌, subst}
use Rattle.net_core.specs.Clock.{shown}
use Rattle.net_core.specs.Ports.{outputs_at}
use Rattle.net_core.specs.View.{netlist_of}
use Rattle.event_sim.specs.Events.{State}
use Rattle.event_sim.specs.Orders.{ClocksInAnyOrder}
use Rattle.event_sim.specs.Refusals.{IsRefused}
use Rattle.event_sim.proofs.Blocks.{any_order}
use Rattle.event_sim.proofs.events.Events.edge.Goals as goal

pub returns-in-Some-clause-refused : goal.returns-in-Some-clause-refused
returns-in-Some-clause-refused c = subst (λ (s : State). IsRefused s c.args.blocks.now c.in-Some.error) c.self.view_is c.in-Some.ensures

pub returns-in-Some-clause-any_order : goal.returns-in-Some-clause-any_order
returns-in-Some-clause-any_order c =
    subst (λ (s : State). ClocksInAnyOrder s.netlist s.ins s.stored) c.self.view_is (any_order (netlist_of c.self.inside.design) c.self.invariant.state.formed c.self.inside.values.ports.items c.self.inside.values.held)

pub returns-in-None-clause-outputs : goal.returns-in-None-clause-outputs
returns-in-None-clause-outputs c = subst (λ (s : State). c.step-outputs.result ≡ outputs_at (λ port. (shown s.netlist s.ins s.stored port).value)) c.self.view_is c.step-outputs.ensures.outputs

pub returns-in-None-clause-any_order : goal.returns-in-None-clause-any_order
returns-in-None-clause-any_order c =
    subst (λ (s : State). ClocksInAnyOrder s.netlist s.ins s.stored) c.self.view_is (any_order (netlist_of c.self.inside.design) c.self.invariant.state.formed c.self.inside.values.ports.items c.self.inside.values.held)
