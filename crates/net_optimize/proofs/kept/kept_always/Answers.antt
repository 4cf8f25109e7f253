use Rattle.std.proofs.Common.{ap, map}
use Rattle.net_core.specs.View.{statement_of}
use Rattle.net_optimize.specs.Renumber.{numbers_of, renumber_always}
use Rattle.net_optimize.proofs.Loops.{busy_pushed, next}
use Rattle.net_optimize.proofs.kept.kept_always.Goals as goal

pub loop-stmt-preserved : goal.loop-stmt-preserved
loop-stmt-preserved c =
    busy_pushed _ _ _ _ _ _ _ c.in_ok-push_busy.ensures c.in_ok-stmt.ensures
    (ap (λ xs. renumber_always (numbers_of c.args.numbers.now) (map statement_of xs)) (next _ c.loop-stmt.stmt-index c.stmt-item.result c.loop-stmt-test.true c.stmt-item.is)) c.loop-stmt.invariant
