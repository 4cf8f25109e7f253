use Rattle.std.proofs.Common.{◌≤◌, take}
use Rattle.register_rules.proofs.NarrowRegisters.DeclaredLemmas.{IsSoFar}
use Rattle.register_rules.proofs.narrow_registers.storing.narrow_declared.Given as goal

abbrev pub invariant-loop-item : goal.invariant-loop-item
invariant-loop-item l = record { items : IsSoFar l.codes (take l.item-index l.declared) l.all.items l.next; below : l.next ≤ l.item-index }
