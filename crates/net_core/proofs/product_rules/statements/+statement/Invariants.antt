use Rattle.std.proofs.Common.{◌≡◌, ◌≤◌}
use Rattle.net_core.specs.declared.tree.Net.{Net}
use Rattle.net_core.specs.declared.tree.Stmts.{size-Stmts}
use Rattle.net_core.specs.View.{statements_of}
use Rattle.net_core.specs.ProductRules.Products.{made_by_product, statements_flat}
use Rattle.net_core.proofs.product_rules.statements.+statement.Given as goal

abbrev pub invariant-statements_flat-loop-left : goal.invariant-statements_flat-loop-left
invariant-statements_flat-loop-left l = record {
  same : statements_flat (made_by_product l.marks) (statements_of l.left) ≡ statements_flat (made_by_product l.marks) (statements_of l.fn.stmts);
  depth : size-Stmts Net l.left ≤ size-Stmts Net l.fn.stmts;
}
