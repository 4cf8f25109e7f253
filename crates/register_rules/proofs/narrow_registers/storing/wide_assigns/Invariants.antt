use Rattle.std.proofs.Common.{map, take}
use Rattle.net_core.specs.View.{assign_of}
use Rattle.register_rules.specs.NarrowRegisters.Narrow.{coding_of, Each, IsSameAssign}
use Rattle.register_rules.proofs.narrow_registers.storing.wide_assigns.Given as goal

abbrev pub invariant-loop-assign : goal.invariant-loop-assign
invariant-loop-assign l = Each (IsSameAssign (coding_of l.codes)) (map assign_of (take l.assign-index l.assigns)) (map assign_of l.all.items)
