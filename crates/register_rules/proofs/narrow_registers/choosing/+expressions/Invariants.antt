use Rattle.std.proofs.Common.{◌≤◌}
use Rattle.net_core.specs.declared.tree.Net.{Net}
use Rattle.net_core.specs.declared.tree.Parts.{size-Parts}
use Rattle.register_rules.proofs.narrow_registers.choosing.+expressions.Given as goal

abbrev pub invariant-parts_zeros-loop-left : goal.invariant-parts_zeros-loop-left
invariant-parts_zeros-loop-left l = size-Parts Net l.left ≤ size-Parts Net l.fn.parts
