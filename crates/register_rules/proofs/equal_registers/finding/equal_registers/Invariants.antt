use Rattle.std.proofs.Common.{◌≡◌, length}
use Rattle.register_rules.proofs.equal_registers.finding.equal_registers.Given as goal

abbrev pub invariant-loop : goal.invariant-loop
invariant-loop l = length l.guess.registers.items ≡ length l.words.items
