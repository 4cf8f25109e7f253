use Rattle.operator_cells.proofs.Growing.{grown, makes_after}
use Rattle.operator_cells.proofs.Division.{divided_is}
use Rattle.std.proofs.Common.{arith}
use Rattle.operator_cells.proofs.RisingLaws.{stand_none, stand_more, rises_then}
use Rattle.operator_cells.proofs.dividing.divide.Goals as goal

pub returns-clause-makes : goal.returns-clause-makes
returns-clause-makes c =
    let x = c.in_ok-x.ensures.makes in
    let y = c.in_ok-y.ensures.makes in
    let n = c.in_ok-n.ensures.makes in
    makes_after _ _ _ _ _ _ (grown _ _ _ x.grows (grown _ _ _ y.grows n.grows)) c.in_ok-c.ensures.makes
    (λ packet v r.
    let ry = n.grows.run packet v r in
    divided_is c.args.width c.args.rest (v c.args.a) (v c.args.b) (v c.in_ok-x.x) (v c.in_ok-y.y) (v c.in_ok-n.n)
    (x.value packet v (y.grows.run packet v ry)) (y.value packet v ry) (rw c.bits.ensures at n.value packet v r))

pub returns-clause-rises : goal.returns-clause-rises
returns-clause-rises c = rises_then (stand_more (stand_more (stand_more stand_none c.in_ok-x.ensures.rises (λ row p. omega arith)) c.in_ok-y.ensures.rises (λ row p. omega arith)) c.in_ok-n.ensures.rises (λ row p. omega arith)) c.in_ok-c.ensures.rises (λ row p. omega arith)
