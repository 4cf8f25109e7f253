use Rattle.std.proofs.Common.{◌≡◌, true, ◌≤◌}
use Rattle.net_core.specs.declared.tree.Net.{Net}
use Rattle.net_core.specs.declared.tree.Stmts.{size-Stmts}
use Rattle.net_core.specs.View.{statements_of}
use Rattle.net_core.specs.Clock.{all_done}
use Rattle.net_rules.specs.NetSizes.Fitting.{sizes_of}
use Rattle.net_rules.specs.NetSizes.Keeping.{Keeps}
use Rattle.net_rules.proofs.net_sizes.keeping.+keeping.Given as goal

-- where what is left keeps sizes, all does
abbrev pub invariant-stmts_keep-loop-left : goal.invariant-stmts_keep-loop-left
invariant-stmts_keep-loop-left l = record {
  keeps : l.all ≡ true → Keeps (sizes_of l.sizes) (λ v s. all_done v (statements_of l.left) s) → Keeps (sizes_of l.sizes) (λ v s. all_done v (statements_of l.fn.stmts) s);
  depth : size-Stmts Net l.left ≤ size-Stmts Net l.fn.stmts;
}
