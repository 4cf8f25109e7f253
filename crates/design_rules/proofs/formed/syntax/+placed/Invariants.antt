use Rattle.std.proofs.Common.{◌≡◌, ◌≤◌}
use Rattle.net_core.specs.declared.tree.Net.{Net}
use Rattle.net_core.specs.declared.tree.Stmts.{size-Stmts}
use Rattle.net_core.specs.View.{statements_of}
use Rattle.design_rules.specs.FormedSyntax.{all_placed}
use Rattle.design_rules.proofs.formed.syntax.+placed.Given as goal

abbrev pub invariant-all_placed-loop-left : goal.invariant-all_placed-loop-left
invariant-all_placed-loop-left l = record {
  same : all_placed (statements_of l.left) ≡ all_placed (statements_of l.fn.stmts);
  depth : size-Stmts Net l.left ≤ size-Stmts Net l.fn.stmts;
}
