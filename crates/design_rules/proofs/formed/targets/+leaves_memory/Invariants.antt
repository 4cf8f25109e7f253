use Rattle.std.specs.Prelude.{◌==◌, true}
use Rattle.std.proofs.Common.{◌≡◌, ◌≤◌, not}
use Rattle.net_core.specs.declared.tree.Net.{Net}
use Rattle.net_core.specs.declared.tree.Stmts.{size-Stmts}
use Rattle.net_core.specs.View.{statements_of}
use Rattle.design_rules.specs.FormedScope.{all_targets_pass}
use Rattle.design_rules.proofs.formed.targets.+leaves_memory.Given as goal

abbrev pub invariant-all_leave_memory-loop-left : goal.invariant-all_leave_memory-loop-left
invariant-all_leave_memory-loop-left l = record {
  same : all_targets_pass (λ k. true) (λ k. not (k == l.memory)) (statements_of l.left) ≡ all_targets_pass (λ k. true) (λ k. not (k == l.memory)) (statements_of l.fn.stmts);
  depth : size-Stmts Net l.left ≤ size-Stmts Net l.fn.stmts;
}
