use Rattle.std.proofs.Common.{arith}
use Rattle.std.proofs.lemmas.Result.{err_from_is_err_and}
use Rattle.block_core.specs.View.{block_of, count_in}
use Rattle.block_core.proofs.Loops.{running_more}
use Rattle.block_core.proofs.Ranges.{total_more, total_past, total_end}
use Rattle.block_core.proofs.starts.starts_in.Goals as goal

pub loop-placed-preserved : goal.loop-placed-preserved
loop-placed-preserved g c = record {
  starts = grind (arith, running_more);
  total = total_more (λ m. count_in c.args.section (block_of m.block)) c.args.parts.now c.loop-placed.placed-index _ _ _ c.loop-placed-test.true c.placed-item.is (grind arith) c.loop-placed.invariant.total;
  small = rw c.in_ok-at.ensures.number c.in_ok-at.ensures.range;
}

pub returns-in_err-at-clause-range : goal.returns-in_err-at-clause-range
returns-in_err-at-clause-range g c =
    let p = err_from_is_err_and c.from_residual-in_err-at.result c.from_residual-in_err-at.ensures.1 in
    rw (p.1, p.2)
    (λ t. total_past (λ m. count_in c.args.section (block_of m.block)) c.args.parts.now c.loop-placed.placed-index _ _ c.loop-placed-test.true c.placed-item.is c.loop-placed.invariant.total
    (rw (← c.count.ensures) (c.in_err-at.ensures.range t)))

pub returns-clause-range : goal.returns-clause-range
returns-clause-range g c = total_end (λ m. count_in c.args.section (block_of m.block)) c.args.parts.now c.loop-placed.placed-index _ c.loop-placed-test.false c.loop-placed.invariant.total c.loop-placed.invariant.small
