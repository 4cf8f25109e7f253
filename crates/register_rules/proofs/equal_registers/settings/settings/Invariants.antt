use Rattle.std.proofs.Common.{◌≡◌, ◌++◌, map, drop}
use Rattle.net_core.specs.View.{statement_of}
use Rattle.register_rules.specs.EqualRegisters.Settings.{setting_of, block_settings}
use Rattle.register_rules.proofs.equal_registers.settings.settings.Given as goal

abbrev pub invariant-loop-stmt : goal.invariant-loop-stmt
invariant-loop-stmt l = map setting_of l.all.items ++ block_settings l.at (map statement_of (drop l.stmt-index l.always)) ≡ block_settings 0 (map statement_of l.always)
