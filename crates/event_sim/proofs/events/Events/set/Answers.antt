use Rattle.std.proofs.Common.{◌≡◌, length, arith, ◌∙◌}
use Rattle.std.proofs.lemmas.List.{with_items_is}
use Rattle.event_sim.specs.Views.{state_of}
use Rattle.event_sim.proofs.States.{set_state}
use Rattle.event_sim.proofs.events.Events.set.Goals as goal

pub invariant_of-self : goal.invariant_of-self
invariant_of-self c =
    let ports = c.self.inside.values.ports in
    let count : length c.write_inputs.new.ports ≡ ports.len = omega (arith, c.write_inputs.auto.ports, c.deref_mut.ensures.len, ports.ok.0) in
    record {
      state = set_state (state_of c.self.inside.design c.self.inside.values) c.self.invariant.state c.args.inputs.now c.requires c.write_inputs.ensures.fit _ (with_items_is ports c.write_inputs.new.ports count ∙ c.write_inputs.ensures.words);
      copy = c.self.invariant.copy;
    }
