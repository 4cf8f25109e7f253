use Rattle.std.proofs.Common.{◌≡◌, length, arith}
use Rattle.std.proofs.lemmas.List.{take_at}
use Rattle.clock_sim.proofs.sim.Sim.clock.Goals as goal

pub returns-clause-runs : goal.returns-clause-runs
returns-clause-runs c = rw (← c.self.view_is) (rw (c.deref_mut.ensures.value, c.deref_mut-2.ensures.value) at c.clock.ensures.runs)

pub returns-clause-stored : goal.returns-clause-stored
returns-clause-stored c =
    let slots : length c.clock.new.slots ≡ c.self.inside.slots.len = omega (arith, c.clock.auto.slots, c.deref_mut.ensures.len, c.self.inside.slots.ok.0) in
    let contents : length c.clock.new.contents ≡ c.self.inside.contents.len = omega (arith, c.clock.auto.contents, c.deref_mut-2.ensures.len, c.self.inside.contents.ok.0) in
    rw (take_at c.clock.new.slots _ _ slots, take_at c.clock.new.contents _ _ contents, ← c.self.view_is) (rw (c.deref_mut.ensures.value, c.deref_mut-2.ensures.value) at c.clock.ensures.stored)

pub returns-clause-outputs : goal.returns-clause-outputs
returns-clause-outputs c = rw (← c.self.view_is) (rw (c.deref_mut.ensures.value, c.deref_mut-2.ensures.value) at c.clock.ensures.outputs)

pub returns-clause-stops : goal.returns-clause-stops
returns-clause-stops c = rw (← c.self.view_is) (rw (c.deref_mut.ensures.value, c.deref_mut-2.ensures.value) at c.clock.ensures.stops)
