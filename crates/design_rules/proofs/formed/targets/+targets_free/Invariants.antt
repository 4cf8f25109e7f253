use Rattle.std.specs.List.{list_all}
use Rattle.std.proofs.Common.{◌≡◌, ◌≤◌}
use Rattle.net_core.specs.declared.tree.Net.{Net}
use Rattle.net_core.specs.declared.tree.Stmts.{size-Stmts}
use Rattle.net_core.specs.View.{statement_of, statements_of}
use Rattle.design_rules.specs.FormedScope.{all_targets_pass, leaves_register, leaves_memory}
use Rattle.design_rules.proofs.formed.targets.+targets_free.Given as goal

abbrev pub invariant-all_targets_free-loop-left : goal.invariant-all_targets_free-loop-left
invariant-all_targets_free-loop-left l = record {
  same : all_targets_pass (λ r. list_all (λ b. leaves_register r (statement_of b)) l.before) (λ m. list_all (λ b. leaves_memory m (statement_of b)) l.before) (statements_of l.left) ≡ all_targets_pass (λ r. list_all (λ b. leaves_register r (statement_of b)) l.before) (λ m. list_all (λ b. leaves_memory m (statement_of b)) l.before) (statements_of l.fn.stmts);
  depth : size-Stmts Net l.left ≤ size-Stmts Net l.fn.stmts;
}
