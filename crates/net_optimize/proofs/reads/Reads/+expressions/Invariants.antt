use Rattle.std.proofs.Common.{◌≤◌}
use Rattle.net_core.specs.declared.tree.Net.{Net}
use Rattle.net_core.specs.declared.tree.Parts.{size-Parts}
use Rattle.net_optimize.proofs.reads.Reads.+expressions.Given as goal

abbrev pub invariant-count_parts-loop-left : goal.invariant-count_parts-loop-left
invariant-count_parts-loop-left l = size-Parts Net l.left ≤ size-Parts Net l.fn.parts
