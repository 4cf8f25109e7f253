use Rattle.std.proofs.Common.{◌≤◌}
use Rattle.net_core.specs.declared.tree.Net.{Net}
use Rattle.net_core.specs.declared.tree.Parts.{size-Parts}
use Rattle.net_optimize.proofs.live.Live.+expressions.Given as goal

abbrev pub invariant-read_parts-loop-left : goal.invariant-read_parts-loop-left
invariant-read_parts-loop-left l = size-Parts Net l.left ≤ size-Parts Net l.fn.parts
