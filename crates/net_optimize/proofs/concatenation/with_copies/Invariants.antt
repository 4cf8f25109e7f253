use Rattle.std.proofs.Common.{◌≡◌, map}
use Rattle.net_core.specs.declared.tree.Net.{Net}
use Rattle.net_core.specs.View.{tree_of, trees_of}
use Rattle.net_core.specs.Value.{Env, concatenated, concatenated_parts}
use Rattle.net_optimize.specs.Lists.{all_parts}
use Rattle.net_optimize.proofs.concatenation.with_copies.Given as goal

abbrev pub invariant-loop-left : goal.invariant-loop-left
invariant-loop-left l =
    (v : Env Net) → concatenated (all_parts v (map tree_of l.all.items)) (concatenated_parts v (trees_of l.left))
    ≡ concatenated (all_parts v (map tree_of l.fn.list.items)) (concatenated_parts v (trees_of l.fn.parts))
