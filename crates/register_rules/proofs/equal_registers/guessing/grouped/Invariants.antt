use Rattle.std.proofs.Common.{◌≡◌, length}
use Rattle.register_rules.proofs.equal_registers.guessing.grouped.Given as goal

abbrev pub invariant-loop-k : goal.invariant-loop-k
invariant-loop-k l = length l.firsts.items ≡ l.k
