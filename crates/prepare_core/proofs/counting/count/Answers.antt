use Rattle.prepare_core.proofs.CountingLaws.{unfolding_fails, counting_fails, fails_with}
use Rattle.prepare_core.proofs.counting.count.Goals as goal

pub returns-in_err-graph-clause-fails : goal.returns-in_err-graph-clause-fails
returns-in_err-graph-clause-fails c =
    fails_with c.args.offsets c.args.program.now c.in_err-graph.field-0.0 c.from_residual.result c.from_residual.ensures.1 (unfolding_fails c.args.offsets c.args.program.now _ c.in_err-graph.ensures.unfolds)

pub returns-in_err-stages-clause-fails : goal.returns-in_err-stages-clause-fails
returns-in_err-stages-clause-fails c =
    fails_with c.args.offsets c.args.program.now c.in_err-stages.field-0.0 c.from_residual-in_err-stages.result c.from_residual-in_err-stages.ensures.1
    (counting_fails c.args.offsets c.args.program.now c.in_ok-graph.graph _ c.in_ok-graph.ensures.unfolds.0 c.in_ok-graph.ensures.unfolds.1 c.in_err-stages.ensures.counted)

pub returns-clause-counted : goal.returns-clause-counted
returns-clause-counted c = record { unfolded = c.in_ok-graph.ensures.unfolds.0; same = c.in_ok-graph.ensures.unfolds.1; stages = c.in_ok-stages.ensures.counted }
