use Rattle.std.proofs.Common.{◌≤◌}
use Rattle.net_core.specs.declared.tree.Net.{Net}
use Rattle.net_core.specs.declared.tree.Parts.{size-Parts}
use Rattle.register_rules.proofs.narrow_registers.bounds.Needs.+bound_expressions.Given as goal

abbrev pub invariant-bound_parts-loop-left : goal.invariant-bound_parts-loop-left
invariant-bound_parts-loop-left l = size-Parts Net l.left ≤ size-Parts Net l.fn.parts
