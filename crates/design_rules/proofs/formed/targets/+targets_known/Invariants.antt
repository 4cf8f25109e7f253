use Rattle.std.specs.Prelude.{nat_lt}
use Rattle.std.proofs.Common.{◌≡◌, ◌≤◌}
use Rattle.net_core.specs.declared.tree.Net.{Net}
use Rattle.net_core.specs.declared.tree.Stmts.{size-Stmts}
use Rattle.net_core.specs.View.{statements_of}
use Rattle.design_rules.specs.FormedScope.{all_targets_pass}
use Rattle.design_rules.proofs.formed.targets.+targets_known.Given as goal

abbrev pub invariant-all_targets_known-loop-left : goal.invariant-all_targets_known-loop-left
invariant-all_targets_known-loop-left l = record {
  same : all_targets_pass (λ r. nat_lt r l.registers) (λ m. nat_lt m l.memories) (statements_of l.left) ≡ all_targets_pass (λ r. nat_lt r l.registers) (λ m. nat_lt m l.memories) (statements_of l.fn.stmts);
  depth : size-Stmts Net l.left ≤ size-Stmts Net l.fn.stmts;
}
