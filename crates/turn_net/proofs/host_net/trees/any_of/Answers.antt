use Rattle.turn_net.proofs.HostNet.TreeLemmas.{moved}
use Rattle.turn_net.proofs.host_net.trees.any_of.Goals as goal

pub loop-one-preserved : goal.loop-one-preserved
loop-one-preserved g c = moved _ _ _ _ _ _ c.in-Some.ensures.items c.in_ok-any.ensures c.loop-one.invariant
