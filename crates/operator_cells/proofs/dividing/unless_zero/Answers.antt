use Rattle.cell_core.specs.xdp_machine.Arithmetic.{bits_in}
use Rattle.operator_cells.proofs.Growing.{grown, makes_after}
use Rattle.operator_cells.proofs.Division.{unless_is, other_row}
use Rattle.std.proofs.Common.{arith}
use Rattle.operator_cells.proofs.RisingLaws.{stand_none, stand_more, rises_then}
use Rattle.operator_cells.proofs.dividing.unless_zero.Goals as goal

pub returns-clause-makes : goal.returns-clause-makes
returns-clause-makes c =
    let z = c.in_ok-zero.ensures.makes in
    let e = c.in_ok-none.ensures.makes in
    makes_after _ _ _ _ _ _ (grown _ _ _ z.grows e.grows) (rw c.bits.ensures at c.in_ok-c.ensures.makes)
    (λ packet v r. unless_is (bits_in c.args.width) c.args.a c.args.b c.args.n c.in_ok-zero.zero c.in_ok-none.none c.instead-other.result c.args.rest v (z.value packet v (e.grows.run packet v r)) (e.value packet v r) c.instead-other.ensures)

pub returns-clause-rises : goal.returns-clause-rises
returns-clause-rises c = rises_then (stand_more (stand_more stand_none c.in_ok-zero.ensures.rises (λ row p. omega arith)) c.in_ok-none.ensures.rises (λ row p. omega arith)) c.in_ok-c.ensures.rises
    (λ row p. omega (arith, other_row row c.args.rest c.args.a c.in_ok-zero.zero c.instead-other.result c.instead-other.ensures))
