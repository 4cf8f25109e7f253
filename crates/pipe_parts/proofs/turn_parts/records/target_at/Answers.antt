use Rattle.std.proofs.Common.{arith}
use Rattle.pipe_parts.proofs.TurnParts.Aiming.{found_there}
use Rattle.pipe_parts.proofs.turn_parts.records.target_at.Goals as goal

pub returns : goal.returns
returns c = absurd (found_there c.args.owns.now c.args.site c.requires.there (λ n o lt. c.loop-i.invariant n o (omega (arith, lt))))
