use Rattle.operator_cells.proofs.Growing.{grown, makes_after}
use Rattle.operator_cells.proofs.SignedDivision.{turned_where}
use Rattle.std.proofs.Common.{arith}
use Rattle.operator_cells.proofs.RisingLaws.{stand_none, stand_more, rises_then}
use Rattle.operator_cells.proofs.dividing.turn_where.Goals as goal

pub returns-clause-makes : goal.returns-clause-makes
returns-clause-makes c =
    let z = c.in_ok-zero.ensures.makes in
    let o = rw c.bits.ensures at c.in_ok-other.ensures.makes in
    makes_after _ _ _ _ _ _ (grown _ _ _ z.grows o.grows) (rw c.bits-2.ensures at c.in_ok-c.ensures.makes)
    (λ packet v r. turned_where c.args.width (v c.args.sign) (v c.args.a) (v c.in_ok-zero.zero) (v c.in_ok-other.other) (z.value packet v (o.grows.run packet v r)) (o.value packet v r))

pub returns-clause-rises : goal.returns-clause-rises
returns-clause-rises c = rises_then (stand_more (stand_more stand_none c.in_ok-zero.ensures.rises (λ row p. omega arith)) c.in_ok-other.ensures.rises (λ row p. omega arith)) c.in_ok-c.ensures.rises (λ row p. omega arith)
