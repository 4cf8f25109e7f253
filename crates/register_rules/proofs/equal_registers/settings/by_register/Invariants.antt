use Rattle.std.proofs.Common.{take, map}
use Rattle.register_rules.specs.EqualRegisters.Settings.{setting_of, AreListed}
use Rattle.register_rules.proofs.equal_registers.settings.by_register.Given as goal

abbrev pub invariant-loop-setting : goal.invariant-loop-setting
invariant-loop-setting l = AreListed l.fn.count l.lists.items (map setting_of (take l.setting-index l.all))
