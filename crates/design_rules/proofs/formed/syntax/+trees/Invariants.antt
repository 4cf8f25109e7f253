use Rattle.std.proofs.Common.{◌≡◌, ◌≤◌}
use Rattle.net_core.specs.declared.tree.Net.{Net}
use Rattle.net_core.specs.declared.tree.Stmts.{size-Stmts}
use Rattle.net_core.specs.View.{statements_of}
use Rattle.design_rules.specs.FormedSyntax.{tree_spelled, all_trees_pass}
use Rattle.design_rules.proofs.formed.syntax.+trees.Given as goal

abbrev pub invariant-all_trees_spelled-loop-left : goal.invariant-all_trees_spelled-loop-left
invariant-all_trees_spelled-loop-left l = record {
  same : all_trees_pass tree_spelled (statements_of l.left) ≡ all_trees_pass tree_spelled (statements_of l.fn.stmts);
  depth : size-Stmts Net l.left ≤ size-Stmts Net l.fn.stmts;
}
