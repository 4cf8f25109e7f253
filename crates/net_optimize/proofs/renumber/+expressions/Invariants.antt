use Rattle.std.proofs.Common.{◌≡◌, ◌≤◌, map}
use Rattle.net_core.specs.declared.tree.Expr.{size-Expr}
use Rattle.net_core.specs.declared.tree.Parts.{size-Parts}
use Rattle.net_core.specs.View.{tree_of, trees_of}
use Rattle.net_core.specs.Chains.{parts_before}
use Rattle.block_core.specs.Rename.{rename_parts}
use Rattle.net_optimize.specs.Renumber.{numbers_of, renumber}
use Rattle.net_optimize.proofs.renumber.+expressions.Given as goal

abbrev pub decreases-renumbered_expr : goal.decreases-renumbered_expr
decreases-renumbered_expr l = size-Expr _ l.e.now

abbrev pub decreases-renumbered_parts : goal.decreases-renumbered_parts
decreases-renumbered_parts l = size-Parts _ l.parts.now

abbrev pub invariant-renumbered_parts-loop-left : goal.invariant-renumbered_parts-loop-left
invariant-renumbered_parts-loop-left l = record {
  done : parts_before (map tree_of l.prefix.items) (rename_parts (renumber (numbers_of l.numbers)) (trees_of l.left)) ≡ rename_parts (renumber (numbers_of l.numbers)) (trees_of l.fn.parts);
  depth : size-Parts _ l.left ≤ size-Parts _ l.fn.parts;
}
