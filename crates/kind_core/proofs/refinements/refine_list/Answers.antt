use Rattle.std.proofs.Common.{arith}
use Rattle.kind_core.proofs.Lists.{refine_more}
use Rattle.kind_core.proofs.refinements.refine_list.Goals as goal

pub loop-i-preserved : goal.loop-i-preserved
loop-i-preserved c =
    refine_more c.args.refinement c.args.kinds.now c.loop-i.kinds c.loop-i.i c.refined.result c.loop-i-test.true (omega arith) c.loop-i.invariant c.refined.ensures
