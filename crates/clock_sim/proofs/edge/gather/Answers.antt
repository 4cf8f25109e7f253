use Rattle.std.proofs.Common.{◌∙◌}
use Rattle.clock_sim.proofs.StatementLemmas.{slot_at, gather_more}
use Rattle.clock_sim.proofs.edge.gather.Goals as goal

pub bounds-slots-slot : goal.bounds-slots-slot
bounds-slots-slot c = slot_at _ _ c.requires.slots c.loop-i.i 0 c.loop-i-test.true

pub loop-i-preserved : goal.loop-i-preserved
loop-i-preserved c = gather_more c.args.next.now c.args.slots.now c.loop-i.words c.loop-i.i c.loop-i-test.true (c.loop-i.auto.words ∙ c.requires.count) c.loop-i.invariant
