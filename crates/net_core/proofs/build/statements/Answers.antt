use Rattle.net_core.proofs.ChainLaws.{statements_moved}
use Rattle.net_core.proofs.build.statements.Goals as goal

pub loop-first-preserved : goal.loop-first-preserved
loop-first-preserved g c = statements_moved _ _ _ _ _ _ c.in-Some.ensures.items c.in_ok-list.ensures c.loop-first.invariant
