use Rattle.std.proofs.Common.{◌≡◌, take}
use Rattle.net_core.specs.Clock.{first_words}
use Rattle.register_rules.proofs.equal_registers.repeating.declared_words.Given as goal

abbrev pub invariant-loop-item : goal.invariant-loop-item
invariant-loop-item l = l.words.items ≡ first_words (take l.item-index l.declared)
