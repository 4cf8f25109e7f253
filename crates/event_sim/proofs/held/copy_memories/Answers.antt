use Rattle.std.proofs.Common.{[], arith}
use Rattle.std.proofs.lemmas.List.{ext_get_or}
use Rattle.event_sim.proofs.held.copy_memories.Goals as goal

pub returns : goal.returns
returns c = ext_get_or [] c.loop-at.memories c.args.others.now c.loop-at.invariant.count (λ k l. c.loop-at.invariant.same k (omega (arith, l, c.loop-at-test.false, c.loop-at.auto.memories)))
