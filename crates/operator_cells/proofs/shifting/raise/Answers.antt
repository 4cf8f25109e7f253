use Rattle.operator_cells.proofs.Growing.{makes_after}
use Rattle.operator_cells.proofs.Shifts.{raised_is}
use Rattle.std.proofs.Common.{arith}
use Rattle.operator_cells.proofs.RisingLaws.{stand_none, stand_more, rises_then}
use Rattle.operator_cells.proofs.shifting.raise.Goals as goal

pub returns-clause-makes : goal.returns-clause-makes
returns-clause-makes c =
    let z = c.in_ok-zero.ensures.makes in
    makes_after _ _ _ _ _ _ z.grows (rw c.bits.ensures at c.in_ok-c.ensures.makes)
    (λ packet v r. raised_is c.args.width (v c.args.a) (v c.in_ok-zero.zero) c.args.count (z.value packet v r))

pub returns-clause-rises : goal.returns-clause-rises
returns-clause-rises c = rises_then (stand_more stand_none c.in_ok-zero.ensures.rises (λ row p. omega arith)) c.in_ok-c.ensures.rises (λ row p. omega arith)
