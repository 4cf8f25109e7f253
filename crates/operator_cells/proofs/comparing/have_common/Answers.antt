use Rattle.operator_cells.proofs.Growing.{grown, makes_after}
use Rattle.operator_cells.proofs.Conditions.{none_common}
use Rattle.std.proofs.Common.{arith}
use Rattle.operator_cells.proofs.RisingLaws.{stand_none, stand_more, rises_then}
use Rattle.operator_cells.proofs.comparing.have_common.Goals as goal

pub returns-clause-makes : goal.returns-clause-makes
returns-clause-makes c =
    let b = c.in_ok-both.ensures.makes in
    let z = c.in_ok-zero.ensures.makes in
    let n = c.in_ok-none.ensures.makes in
    makes_after _ _ _ _ _ _ (grown _ _ _ b.grows (grown _ _ _ z.grows n.grows)) c.in_ok-c.ensures.makes
    (λ packet v r.
    let rz = n.grows.run packet v r in
    let rb = z.grows.run packet v rz in
    none_common (v c.args.a) (v c.args.b) _ _ _ (b.value packet v rb) (z.value packet v rz) (n.value packet v r))

pub returns-clause-rises : goal.returns-clause-rises
returns-clause-rises c = rises_then (stand_more (stand_more (stand_more stand_none c.in_ok-both.ensures.rises (λ row p. omega arith)) c.in_ok-zero.ensures.rises (λ row p. omega arith)) c.in_ok-none.ensures.rises (λ row p. omega arith)) c.in_ok-c.ensures.rises (λ row p. omega arith)
