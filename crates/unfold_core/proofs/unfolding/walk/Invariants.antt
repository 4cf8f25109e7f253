use Rattle.std.proofs.Common.{◌≡◌, length}
use Rattle.unfold_core.proofs.WalkingLaws.{IsWalk}
use Rattle.unfold_core.proofs.unfolding.walk.Given as goal

abbrev pub invariant-loop-number : goal.invariant-loop-number
invariant-loop-number l = record { walk : IsWalk l.fn.offsets l.program l.loops l.nodes.items l.pending.items; counted : length l.nodes.items ≡ l.number }
