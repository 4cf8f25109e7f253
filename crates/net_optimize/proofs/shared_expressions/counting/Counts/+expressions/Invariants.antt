use Rattle.std.proofs.Common.{◌≤◌}
use Rattle.net_core.specs.declared.tree.Net.{Net}
use Rattle.net_core.specs.declared.tree.Parts.{size-Parts}
use Rattle.net_optimize.proofs.shared_expressions.counting.Counts.+expressions.Given as goal

abbrev pub invariant-add_parts-loop-left : goal.invariant-add_parts-loop-left
invariant-add_parts-loop-left l = size-Parts Net l.left ≤ size-Parts Net l.fn.parts
