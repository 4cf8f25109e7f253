use Rattle.std.proofs.Common.{below_more}
use Rattle.std.specs.Prelude.{Contains}
use Rattle.event_sim.proofs.order.is_order.Goals as goal

pub loop-number-preserved : goal.loop-number-preserved
loop-number-preserved c = below_more (λ k. Contains c.args.order.now k) c.loop-number.number c.loop-number.invariant (c.contains.ensures.0 c.if-not-contains.false)
