use Rattle.std.proofs.Common.{map}
use Rattle.predicate_core.specs.Progress.{AreFirst}
use Rattle.predicate_core.proofs.program.first_entries.Given as goal

abbrev pub invariant-loop-node : goal.invariant-loop-node
invariant-loop-node l = AreFirst l.node (map (λ x. x.items) l.entries.items)
