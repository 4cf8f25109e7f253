use Rattle.std.proofs.Common.{◌≡◌, ◌≤◌, map}
use Rattle.net_core.specs.declared.tree.Net.{Net}
use Rattle.net_core.specs.declared.tree.Parts.{size-Parts}
use Rattle.net_core.specs.View.{tree_of, trees_of}
use Rattle.net_core.specs.Chains.{parts_before}
use Rattle.net_core.proofs.net_trees.copying.+copies.Given as goal

abbrev pub invariant-copied_parts-loop-left : goal.invariant-copied_parts-loop-left
invariant-copied_parts-loop-left l = record {
  done : parts_before (map tree_of l.prefix.items) (trees_of l.left) ≡ trees_of l.fn.parts;
  depth : size-Parts Net l.left ≤ size-Parts Net l.fn.parts;
}
