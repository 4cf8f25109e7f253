-- None crosses it: there is a loop to say so of.
use Rattle.std.proofs.Common.{arith}
use Rattle.unfold_core.specs.Tables.{loop}
use Rattle.unfold_core.proofs.tables.is_crossed.Goals as goal

pub returns : goal.returns
returns c = (
  λ yes. absurd (cc),
  λ found. absurd (c.loop-outer.invariant found.0 (loop 0 0) (omega (arith, found.1, c.loop-outer-test.false)) (found.2 (loop 0 0))),
)
