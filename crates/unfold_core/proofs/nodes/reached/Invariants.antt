use Rattle.unfold_core.proofs.NodeSteps.{AreNext}
use Rattle.unfold_core.proofs.nodes.reached.Given as goal

abbrev pub invariant-loop-k : goal.invariant-loop-k
invariant-loop-k l = AreNext l.loops l.from.place l.to l.from.copies l.k l.copies.items
