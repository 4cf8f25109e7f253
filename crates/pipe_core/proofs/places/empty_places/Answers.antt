use Rattle.std.proofs.Common.{◌+◌, suc, arith}
use Rattle.hazard_core.specs.cell_core.View.{program_of}
use Rattle.pipe_core.proofs.Moving.{stock_more}
use Rattle.pipe_core.proofs.places.empty_places.Goals as goal

pub loop-k-preserved : goal.loop-k-preserved
loop-k-preserved c =
    let h = c.loop-k.invariant in
    let x = c.in_ok-empty_place-2 in
    stock_more (program_of c.args.planned.now.program.now) c.loop-k.places.items _ x.field-0 (suc c.loop-k.k) (suc (c.loop-k.k + 1)) c.in_ok-push-2.ensures.items x.ensures.empty x.ensures.of h.0 h.1 h.2 (omega arith)
