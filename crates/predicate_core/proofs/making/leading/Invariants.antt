use Rattle.predicate_core.proofs.Numbered.{AreAt}
use Rattle.predicate_core.proofs.making.leading.Given as goal

abbrev pub invariant-loop-number : goal.invariant-loop-number
invariant-loop-number l = AreAt l.ways l.numbers l.number-index l.here.items
