use Rattle.net_core.proofs.SameClocks.SameLaws.{same_in_turn}
use Rattle.net_optimize.proofs.optimizing.stepped.Goals as goal

pub loop-step-preserved : goal.loop-step-preserved
loop-step-preserved c = record {
  same = same_in_turn _ _ _ c.loop-step.invariant.same c.in_ok-best.ensures.same;
  reads = c.in_ok-best.ensures.reads;
}
