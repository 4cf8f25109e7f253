use Rattle.operator_cells.proofs.Growing.{makes_after}
use Rattle.operator_cells.proofs.SignedShifts.{lowered_signed}
use Rattle.std.proofs.Common.{arith}
use Rattle.operator_cells.proofs.RisingLaws.{stand_none, stand_more, rises_then}
use Rattle.operator_cells.proofs.shifting.lower_signed.Goals as goal

pub returns-clause-makes : goal.returns-clause-makes
returns-clause-makes c =
    let l = c.in_ok-rest.ensures.makes in
    makes_after _ _ _ _ _ _ l.grows (rw (c.bits.ensures, c.bits-2.ensures) at c.in_ok-c.ensures.makes)
    (λ packet v r. lowered_signed c.args.width c.args.count (v c.args.a) (v c.in_ok-rest.rest) c.requires.count (l.value packet v r))

pub returns-clause-rises : goal.returns-clause-rises
returns-clause-rises c = rises_then (stand_more stand_none c.in_ok-rest.ensures.rises (λ row p. omega arith)) c.in_ok-c.ensures.rises (λ row p. omega arith)
