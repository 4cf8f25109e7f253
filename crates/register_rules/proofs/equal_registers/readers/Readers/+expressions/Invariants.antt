use Rattle.std.proofs.Common.{◌≤◌}
use Rattle.net_core.specs.declared.tree.Net.{Net}
use Rattle.net_core.specs.declared.tree.Parts.{size-Parts}
use Rattle.register_rules.proofs.equal_registers.readers.Readers.+expressions.Given as goal

abbrev pub invariant-add_parts-loop-left : goal.invariant-add_parts-loop-left
invariant-add_parts-loop-left l = size-Parts Net l.left ≤ size-Parts Net l.fn.parts
