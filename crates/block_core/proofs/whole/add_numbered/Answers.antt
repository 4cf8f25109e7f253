use Rattle.block_core.proofs.Loops.{numbered_pushed}
use Rattle.block_core.proofs.whole.add_numbered.Goals as goal

pub loop-k-preserved : goal.loop-k-preserved
loop-k-preserved c =
    numbered_pushed c.args.letter.now c.loop-k.k c.args.count c.loop-k.names.items _ _ _ c.in_ok-push.ensures.items c.loop-k-test.true c.in_ok-numbered_name.ensures c.loop-k.invariant
