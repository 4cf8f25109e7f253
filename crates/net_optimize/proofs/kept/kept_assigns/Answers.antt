use Rattle.std.proofs.Common.{ap, map}
use Rattle.net_core.specs.View.{assign_of}
use Rattle.net_optimize.specs.Renumber.{numbers_of, renumber_assign}
use Rattle.net_optimize.proofs.Loops.{pushed, next}
use Rattle.net_optimize.proofs.kept.kept_assigns.Goals as goal

pub loop-assign-preserved : goal.loop-assign-preserved
loop-assign-preserved c =
    let g = renumber_assign (numbers_of c.args.numbers.now) in
    pushed assign_of c.loop-assign.all.items _ _ (g (assign_of c.assign-item.result)) _ _ _ c.in_ok-push.ensures.items (rw c.in_ok-value.ensures)
    (ap (λ xs. map g (map assign_of xs)) (next _ c.loop-assign.assign-index c.assign-item.result c.loop-assign-test.true c.assign-item.is)) c.loop-assign.invariant
