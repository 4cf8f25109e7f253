use Rattle.std.proofs.lemmas.List.{get_or_default}
use Rattle.predicate_core.proofs.Closed.{outputs_more}
use Rattle.predicate_core.proofs.closing.outputs.Goals as goal

pub loop-exit-preserved : goal.loop-exit-preserved
loop-exit-preserved c = outputs_more _ _ _ _ _ _ _ _ _ _ c.loop-exit-test.true c.loop-exit.invariant (c.requires.there _ _ c.loop-exit-test.true).0 c.in_ok-cell.ensures.makes c.in_ok-cell.ensures.no_row
    (λ d. get_or_default c.args.exits.now c.loop-exit.exit-index d _ c.loop-exit-test.true) c.in_ok-push.ensures.items
