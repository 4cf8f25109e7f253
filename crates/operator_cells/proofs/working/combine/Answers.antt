use Rattle.std.proofs.Common.{ℕ, ◌∙◌, ◌∷◌, [], List, ap, arith}
use Rattle.cell_core.specs.xdp_machine.Arithmetic.{bits_in, low}
use Rattle.cell_core.specs.Cells.{number, bits_from}
use Rattle.operator_cells.specs.Making.{operator_of}
use Rattle.operator_cells.proofs.Growing.{grown, makes_after}
use Rattle.operator_cells.proofs.Numbers.{operated_one, low_below}
use Rattle.operator_cells.proofs.RisingLaws.{stand_none, stand_more, rises_then}
use Rattle.operator_cells.proofs.working.combine.Goals as goal

pub returns-clause-makes : goal.returns-clause-makes
returns-clause-makes c = λ signed.
    let x = c.in_ok-x.ensures.makes in
    let y = c.in_ok-y.ensures.makes in
    let w = bits_in c.args.width in
    makes_after _ _ _ _ _ _ (grown _ _ _ x.grows y.grows) (rw (c.operator.ensures, c.bits.ensures) at c.in_ok-c.ensures.makes)
    (λ packet v r. ap (λ (xs : List ℕ). bits_from (number packet (operator_of c.args.code) xs) 0 w)
    (ap (λ (p : ℕ). p ∷ v c.in_ok-y.y ∷ []) (x.value packet v (y.grows.run packet v r)) ∙ ap (λ (q : ℕ). low w (v c.args.a) ∷ q ∷ []) (y.value packet v r))
    ∙ operated_one packet c.args.width c.args.code signed (low w (v c.args.a)) (low w (v c.args.b)) c.requires.one (low_below w (v c.args.a)) (low_below w (v c.args.b)))

pub returns-clause-rises : goal.returns-clause-rises
returns-clause-rises c = rises_then (stand_more (stand_more stand_none c.in_ok-x.ensures.rises (λ row p. omega arith)) c.in_ok-y.ensures.rises (λ row p. omega arith)) (rw c.operator.ensures at c.in_ok-c.ensures.rises) (λ row p. omega arith)
