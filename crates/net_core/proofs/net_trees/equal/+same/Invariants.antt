use Rattle.std.proofs.Common.{◌≡◌, ◌≤◌}
use Rattle.net_core.specs.declared.tree.Net.{Net}
use Rattle.net_core.specs.declared.tree.Parts.{size-Parts}
use Rattle.net_core.specs.View.{trees_of}
use Rattle.net_core.proofs.net_trees.equal.+same.Given as goal

abbrev pub invariant-are_same-loop-left : goal.invariant-are_same-loop-left
invariant-are_same-loop-left l = record {
  same : trees_of l.left ≡ trees_of l.right → trees_of l.fn.a ≡ trees_of l.fn.b;
  depth : size-Parts Net l.left ≤ size-Parts Net l.fn.a;
}
