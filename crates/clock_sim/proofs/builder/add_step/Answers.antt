use Rattle.std.proofs.Common.{rules, None}
use Rattle.clock_sim.specs.Flat.{Flat}
use Rattle.clock_sim.proofs.BuilderLemmas.{slot_builder, step_builder, step_works}
use Rattle.clock_sim.proofs.builder.add_step.Goals as goal

pub invariant_of-builder-in_err-push-2 : goal.invariant_of-builder-in_err-push-2
invariant_of-builder-in_err-push-2 c =
    let old : Flat = record { steps = c.builder.inside.steps.items; slots = c.builder.inside.slots.items } in
    slot_builder old _ None c.in_ok-push.ensures.items c.in_err-push-2.ensures.items c.builder.invariant

pub invariant_of-builder-2 : goal.invariant_of-builder-2
invariant_of-builder-2 c =
    let old : Flat = record { steps = c.builder.inside.steps.items; slots = c.builder.inside.slots.items } in
    step_builder old _ _ c.in_ok-push.ensures.items c.in_ok-push-2.ensures.items (search rules) c.builder.invariant (rw (← c.builder.view_is) at c.requires.left) (rw (← c.builder.view_is) at c.requires.right) (rw (← c.builder.view_is) at c.requires.third)

pub returns-clause-works : goal.returns-clause-works
returns-clause-works c =
    let old : Flat = record { steps = c.builder.inside.steps.items; slots = c.builder.inside.slots.items } in
    rw (← c.builder.view_is) (step_works old _ _ c.in_ok-push.ensures.items c.in_ok-push-2.ensures.items (search rules))
