use Rattle.std.proofs.Common.{◌≡◌, ◌≤◌, map}
use Rattle.net_core.specs.declared.tree.Expr.{size-Expr}
use Rattle.net_core.specs.declared.tree.Parts.{size-Parts}
use Rattle.net_core.specs.View.{tree_of, trees_of}
use Rattle.block_core.specs.Rename.{rename_parts}
use Rattle.net_core.specs.Chains.{parts_before}
use Rattle.block_core.specs.View.{resolve_in}
use Rattle.block_core.specs.Range.{trees_in_range}
use Rattle.block_core.proofs.trees.+expressions.Given as goal

abbrev pub decreases-link_expr : goal.decreases-link_expr
decreases-link_expr g l = size-Expr _ l.e.now

abbrev pub decreases-link_parts : goal.decreases-link_parts
decreases-link_parts g l = size-Parts _ l.parts.now

abbrev pub invariant-link_parts-loop-left : goal.invariant-link_parts-loop-left
invariant-link_parts-loop-left g l = record {
  done : parts_before (map tree_of l.prefix.items) (rename_parts (resolve_in g.P.Part.place l.starts) (trees_of l.left)) ≡ rename_parts (resolve_in g.P.Part.place l.starts) (trees_of l.fn.parts);
  range : trees_in_range (rename_parts (resolve_in g.P.Part.place l.starts) (trees_of l.left)) ≡ trees_in_range (rename_parts (resolve_in g.P.Part.place l.starts) (trees_of l.fn.parts));
  depth : size-Parts _ l.left ≤ size-Parts _ l.fn.parts;
}
