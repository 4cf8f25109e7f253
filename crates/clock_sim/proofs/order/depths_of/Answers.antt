use Rattle.std.specs.Prelude.{slice_set}
use Rattle.std.proofs.Common.{◌≡◌, suc, ◌+◌, ◌≤◌, length, get_or, drop, sym, ap, ◌∙◌, subst, arith}
use Rattle.std.proofs.lemmas.List.{drop_more, drop_all, length-set}
use Rattle.clock_sim.specs.Flat.{AreReading, Climb}
use Rattle.clock_sim.specs.Orders.{AreDepths, depth_of}
use Rattle.clock_sim.proofs.OrderLemmas.{depths_after, depths_are, low_set, depth_low}
use Rattle.clock_sim.proofs.order.depths_of.Goals as goal

pub loop-step-preserved : goal.loop-step-preserved
loop-step-preserved c =
    let steps = c.args.steps.now in
    let i = c.loop-step.step-index in
    let before = c.loop-step.depths.items in
    let s = get_or steps i _ in
    let e = drop_more steps i _ c.loop-step-test.true in
    let climb = subst (λ l. Climb c.loop-step.invariant.from l) e c.loop-step.invariant.climb in
    let reading = subst (λ l. AreReading (length before) l) e c.loop-step.invariant.reading in
    let is = c.depth_of-depth.ensures ∙ ap (λ l. depth_of l s) c.deref.ensures.value in
    record {
      from = suc s.to;
      climb = climb.1;
      reading = subst (λ k. AreReading k (drop (i + 1) steps)) (sym (length-set before s.to c.depth_of-depth.result)) reading.1;
      low = low_set before s.to c.depth_of-depth.result c.loop-step.invariant.low (subst (λ d. d ≤ s.to) (sym is) (depth_low before _ s c.loop-step.invariant.low climb.0));
      made = ap (λ d. depths_after (drop (i + 1) steps) (slice_set before s.to d)) is ∙ sym (ap (λ l. depths_after l before) e) ∙ c.loop-step.invariant.made;
    }

pub returns : goal.returns
returns c =
    let steps = c.args.steps.now in
    let end = drop_all c.loop-step.step-index steps c.loop-step-test.false in
    let all = sym (ap (λ l. depths_after l c.loop-step.depths.items) end) ∙ c.loop-step.invariant.made in
    let first = c.in_ok-depths.depths.items in
    let count : c.args.count ≡ length first = omega (arith, c.in_ok-depths.ensures.len, c.in_ok-depths.depths.ok.0) in
    subst (λ l. AreDepths l steps) (sym all) (depths_are 0 steps first c.requires.climb (subst (λ k. AreReading k steps) count c.requires.reading))
