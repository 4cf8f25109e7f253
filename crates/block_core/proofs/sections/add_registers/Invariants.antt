use Rattle.std.proofs.Common.{◌≡◌, ◌++◌, map, drop}
use Rattle.block_core.specs.Link.{declare_register}
use Rattle.block_core.proofs.sections.add_registers.Given as goal

abbrev pub invariant-loop-first : goal.invariant-loop-first
invariant-loop-first l = l.all.items ++ map declare_register (drop l.first-index l.registers) ≡ l.initial.all.items ++ map declare_register l.registers
