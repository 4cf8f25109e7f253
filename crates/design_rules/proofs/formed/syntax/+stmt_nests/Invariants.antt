use Rattle.std.proofs.Common.{◌≤◌, ◌↔◌}
use Rattle.net_core.specs.declared.tree.Net.{Net}
use Rattle.net_core.specs.declared.tree.Stmts.{size-Stmts}
use Rattle.net_core.specs.View.{statements_of}
use Rattle.design_rules.specs.FormedSyntax.{statements_depth}
use Rattle.design_rules.proofs.formed.syntax.+stmt_nests.Given as goal

abbrev pub invariant-stmts_nest-loop-left : goal.invariant-stmts_nest-loop-left
invariant-stmts_nest-loop-left l = record {
  same : (statements_depth (statements_of l.left) ≤ l.most) ↔ (statements_depth (statements_of l.fn.stmts) ≤ l.most);
  depth : size-Stmts Net l.left ≤ size-Stmts Net l.fn.stmts;
}
