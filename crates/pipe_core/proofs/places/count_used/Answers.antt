use Rattle.std.proofs.Common.{◌≡◌, ap, arith}
use Rattle.hazard_core.specs.cell_core.Cells.{bit}
use Rattle.pipe_core.proofs.Moving.{count_step}
use Rattle.pipe_core.proofs.places.count_used.Goals as goal
use Rattle.pipe_core.proofs.places.count_used.Goals.{then-place, else-place}

pub loop-place-preserved : goal.loop-place-preserved
loop-place-preserved c =
    let s = count_step c.args.places.now c.loop-place.place-index c.place-item.result c.loop-place-test.true c.place-item.is in
    elim c.if-place.branch [
      | then-place w ↦ let u : bit c.place-item.result.used ≡ 1 = ap bit w.if-place.true in (omega (arith, s, u, w.count-is, c.loop-place.invariant.0), omega (arith, w.count-is, c.loop-place.invariant.1))
      | else-place w ↦ let u : bit c.place-item.result.used ≡ 0 = ap bit w.if-place.false in (omega (arith, s, u, w.count-is, c.loop-place.invariant.0), omega (arith, w.count-is, c.loop-place.invariant.1))
    ]
