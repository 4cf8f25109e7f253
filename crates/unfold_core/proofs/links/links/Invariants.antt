use Rattle.std.proofs.Common.{◌≡◌, ◌++◌, drop}
use Rattle.unfold_core.specs.Unfolding.{links}
use Rattle.unfold_core.proofs.links.links.Given as goal

abbrev pub invariant-loop-number : goal.invariant-loop-number
invariant-loop-number l = l.edges.items ++ links l.program l.loops l.nodes l.number (drop l.number l.nodes) ≡ links l.program l.loops l.nodes 0 l.nodes
