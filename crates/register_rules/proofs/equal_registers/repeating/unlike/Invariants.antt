use Rattle.std.proofs.Common.{◌≡◌, ℕ, ◌<◌, List, [], length}
use Rattle.net_core.specs.declared.tree.Net.{Net}
use Rattle.net_core.specs.Nets.{StatementTree}
use Rattle.register_rules.specs.EqualRegisters.Alike.{Repeats}
use Rattle.register_rules.specs.EqualRegisters.Settings.{block_settings, AreListed}
use Rattle.register_rules.proofs.equal_registers.repeating.unlike.Given as goal

abbrev pub invariant-loop-i : goal.invariant-loop-i
invariant-loop-i l = l.others.items ≡ [] → (always : List (StatementTree Net)) → AreListed (length l.words) l.lists (block_settings 0 always) → (k : ℕ) → k < l.i → Repeats l.words l.registers l.wires always k
