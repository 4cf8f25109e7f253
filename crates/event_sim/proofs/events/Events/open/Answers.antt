use Rattle.std.proofs.Common.{◌≡◌, length, sym, ◌∙◌, arith}
use Rattle.std.proofs.lemmas.List.{with_items_is}
use Rattle.net_core.specs.Clock.{first_stored}
use Rattle.net_core.specs.View.{netlist_of}
use Rattle.design_rules.proofs.FormedWidthLaws.{typed}
use Rattle.event_sim.proofs.States.{opened}
use Rattle.event_sim.proofs.events.Events.open.Goals as goal

pub first-requires : goal.first-requires
first-requires c = rw c.deref.ensures.value (typed (netlist_of c.args.design) c.requires).declared

pub first-requires-2 : goal.first-requires-2
first-requires-2 c = rw c.deref-2.ensures.value (typed (netlist_of c.args.design) c.requires).declared

pub invariant_of-result : goal.invariant_of-result
invariant_of-result c =
    let ports = c.in_ok-ports.ports in
    let count : length c.write_inputs.new.ports ≡ ports.len = omega (arith, c.write_inputs.auto.ports, c.deref_mut.ensures.len, ports.ok.0) in
    let held : c.in_ok-held.held ≡ first_stored (netlist_of c.args.design) = rw c.deref.ensures.value at c.in_ok-held.ensures in
    let next : c.in_ok-next.next ≡ first_stored (netlist_of c.args.design) = rw c.deref-2.ensures.value at c.in_ok-next.ensures in
    record {
      state = opened (netlist_of c.args.design) c.requires c.in_ok-nets.ensures.few _ _ _ c.write_inputs.ensures.fit (with_items_is ports c.write_inputs.new.ports count ∙ c.write_inputs.ensures.words) held c.in_ok-nets.ensures.nets;
      copy = next ∙ sym held;
    }
