use Rattle.std.proofs.Common.{◌≡◌, ◌≤◌, map}
use Rattle.net_core.specs.declared.tree.Net.{Net}
use Rattle.net_core.specs.declared.tree.Parts.{size-Parts}
use Rattle.net_core.specs.View.{tree_of, trees_of}
use Rattle.net_core.specs.Value.{Env, concatenated, concatenated_parts}
use Rattle.net_optimize.specs.Folding.{AreKnown}
use Rattle.net_optimize.specs.Lists.{all_parts}
use Rattle.net_optimize.proofs.folding.+expressions.Given as goal

abbrev pub invariant-folded_parts-loop-left : goal.invariant-folded_parts-loop-left
invariant-folded_parts-loop-left l = record {
  done : (v : Env Net) → AreKnown v l.known → concatenated (all_parts v (map tree_of l.all.items)) (concatenated_parts v (trees_of l.left)) ≡ concatenated_parts v (trees_of l.fn.parts);
  depth : size-Parts Net l.left ≤ size-Parts Net l.fn.parts;
}
