use Rattle.std.proofs.Common.{◌≡◌, map, length}
use Rattle.net_core.specs.Nets.{TLast}
use Rattle.net_core.specs.View.{tree_of, trees_of}
use Rattle.net_core.specs.Chains.{parts_before}
use Rattle.net_core.proofs.build.parts.Given as goal

abbrev pub invariant-loop-part : goal.invariant-loop-part
invariant-loop-part g l = parts_before (map tree_of l.prefix.items) (trees_of l.list) ≡ parts_before (map tree_of l.fn.prefix.items) (TLast (tree_of l.fn.last))

abbrev pub decreases-loop-part : goal.decreases-loop-part
decreases-loop-part g l = length l.prefix.items
