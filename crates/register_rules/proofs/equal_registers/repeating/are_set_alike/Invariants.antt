use Rattle.std.proofs.Common.{take, map}
use Rattle.net_core.specs.declared.tree.Net.{Net}
use Rattle.net_core.specs.Value.{Env}
use Rattle.register_rules.specs.EqualRegisters.Alike.{AreAlike}
use Rattle.register_rules.specs.EqualRegisters.Settings.{setting_of, IsSetAlike}
use Rattle.register_rules.specs.NarrowRegisters.Narrow.{Each}
use Rattle.register_rules.proofs.equal_registers.repeating.are_set_alike.Given as goal

abbrev pub invariant-loop-i : goal.invariant-loop-i
invariant-loop-i l = (v : Env Net) → AreAlike l.firsts.registers.now l.firsts.left.now l.firsts.right.now v v → Each (IsSetAlike v) (map setting_of (take l.i l.a)) (map setting_of (take l.i l.b))
