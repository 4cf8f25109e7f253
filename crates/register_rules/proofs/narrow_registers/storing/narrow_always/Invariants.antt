use Rattle.std.proofs.Common.{map, take}
use Rattle.net_core.specs.View.{statement_of}
use Rattle.register_rules.specs.NarrowRegisters.Narrow.{coding_of, Each, IsSameStatement}
use Rattle.register_rules.proofs.narrow_registers.storing.narrow_always.Given as goal

abbrev pub invariant-loop-stmt : goal.invariant-loop-stmt
invariant-loop-stmt l = Each (IsSameStatement (coding_of l.codes)) (map statement_of (take l.stmt-index l.always)) (map statement_of l.all.items)
