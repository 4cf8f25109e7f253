use Rattle.row_net.proofs.PlaceNet.ExitLemmas.{memories_more}
use Rattle.row_net.proofs.place_net.leaving.memories.Goals as goal

pub loop-number-preserved : goal.loop-number-preserved
loop-number-preserved c = memories_more c.args.bits c.args.words.now c.loop-number._number-index c.loop-number.all.items _ _ c.in_ok-push-3.ensures.items c.loop-number-test.true c.memory-in-loop-number.ensures c.loop-number.invariant
