use Rattle.std.proofs.Common.{◌≤◌, ℕ, ◌+◌, ◌<◌}
use Rattle.net_core.specs.declared.tree.Net.{Net}
use Rattle.net_core.specs.declared.tree.Parts.{size-Parts}
use Rattle.net_core.specs.View.{trees_of}
use Rattle.net_core.specs.Value.{Env, concatenated_parts}
use Rattle.net_rules.specs.NetSizes.Fitting.{AreFitting, Fits, sizes_of}
use Rattle.net_rules.proofs.net_sizes.expression.+expressions.Given as goal

-- where the size of what is left is known, that of all is
abbrev pub invariant-parts_size-loop-left : goal.invariant-parts_size-loop-left
invariant-parts_size-loop-left l = record {
  fits : (v : Env Net) (n : ℕ) → AreFitting (sizes_of l.sizes) v → 0 < n → Fits n (concatenated_parts v (trees_of l.left)) → Fits (l.sum + n) (concatenated_parts v (trees_of l.fn.parts));
  depth : size-Parts Net l.left ≤ size-Parts Net l.fn.parts;
}
