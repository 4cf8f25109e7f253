use Rattle.std.proofs.Common.{refl, rules}
use Rattle.clock_sim.specs.Flat.{Flat}
use Rattle.clock_sim.proofs.BuilderLemmas.{slot_builder, constant_adds, constant_holds}
use Rattle.clock_sim.proofs.builder.constant.Goals as goal

pub invariant_of-builder-2 : goal.invariant_of-builder-2
invariant_of-builder-2 c =
    let old : Flat = record { steps = c.builder.inside.steps.items; slots = c.builder.inside.slots.items } in
    slot_builder old _ _ c.in_ok-push.ensures.items refl c.builder.invariant

pub returns-clause-adds : goal.returns-clause-adds
returns-clause-adds c =
    let old : Flat = record { steps = c.builder.inside.steps.items; slots = c.builder.inside.slots.items } in
    rw (← c.builder.view_is) (constant_adds old _ c.in-Ok.slot c.args.word c.in_ok-push.ensures.items refl (search rules))

pub returns-clause-holds : goal.returns-clause-holds
returns-clause-holds c =
    let old : Flat = record { steps = c.builder.inside.steps.items; slots = c.builder.inside.slots.items } in
    let new : Flat = record { steps = c.builder.inside.steps.items; slots = c.push.new.self.items } in
    constant_holds old new c.in-Ok.slot c.args.word c.in_ok-push.ensures.items refl (search rules) (slot_builder old new _ c.in_ok-push.ensures.items refl c.builder.invariant).free
