use Rattle.place_parts.proofs.Taking.{AreNetsTo}
use Rattle.place_parts.proofs.nets.word_nets.Given as goal

abbrev pub invariant-loop-i : goal.invariant-loop-i
invariant-loop-i l = AreNetsTo l.pipeline_plan l.words l.i l.nets.items
