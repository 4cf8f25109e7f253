use Rattle.std.proofs.Common.{◌≡◌, map, length}
use Rattle.net_core.specs.View.{tree_of}
use Rattle.turn_net.specs.HostNet.Trees.{any_of}
use Rattle.turn_net.proofs.host_net.trees.any_of.Given as goal

abbrev pub invariant-loop-one : goal.invariant-loop-one
invariant-loop-one g l = any_of (map tree_of l.all.items) (tree_of l.any) ≡ any_of (map tree_of l.fn.all.items) (tree_of l.fn.last)

abbrev pub decreases-loop-one : goal.decreases-loop-one
decreases-loop-one g l = length l.all.items
