use Rattle.std.proofs.Common.{◌≡◌, ◌++◌, drop}
use Rattle.unfold_core.specs.Unfolding.{numbered}
use Rattle.unfold_core.proofs.links.add_links.Given as goal

abbrev pub invariant-loop-end : goal.invariant-loop-end
invariant-loop-end l = l.edges.items ++ numbered l.loops l.nodes l.from l.taken (drop l.end-index l.ends) ≡ l.initial.edges.items ++ numbered l.loops l.nodes l.from l.initial.taken l.ends
