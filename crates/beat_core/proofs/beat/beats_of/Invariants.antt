use Rattle.std.proofs.Common.{◌≡◌, ◌++◌, length}
use Rattle.beat_core.specs.Beats.{beats_of}
use Rattle.beat_core.proofs.beat.beats_of.Given as goal

-- the beats so far and those of what is left are those of the frame
abbrev pub invariant-loop-rest : goal.invariant-loop-rest
invariant-loop-rest l = l.beats.items ++ beats_of l.rest ≡ beats_of l.frame

abbrev pub decreases-loop-rest : goal.decreases-loop-rest
decreases-loop-rest l = length l.rest
