use Rattle.std.proofs.Common.{ℕ, ◌-◌, ◌^◌, [], ◌∷◌, ◌∙◌, ap, arith}
use Rattle.cell_core.specs.xdp_machine.Arithmetic.{bits_in, low}
use Rattle.cell_core.specs.Cells.{joined, bits_from}
use Rattle.operator_cells.proofs.Growing.{grown, makes_after}
use Rattle.operator_cells.proofs.Conditions.{turned_is}
use Rattle.operator_cells.proofs.RisingLaws.{stand_none, stand_more, rises_then}
use Rattle.operator_cells.proofs.comparing.turn.Goals as goal

pub returns-clause-makes : goal.returns-clause-makes
returns-clause-makes c =
    let s = rw c.bits-top.ensures at c.in_ok-sign.ensures.makes in
    let o = c.in_ok-other.ensures.makes in
    let t = rw c.bits-top.ensures at c.in_ok-rest.ensures.makes in
    let w : ℕ = bits_in c.args.width in
    makes_after _ _ _ _ _ _ (grown _ _ _ s.grows (grown _ _ _ o.grows t.grows)) (rw (c.bits-top.ensures, c.bits.ensures) at c.in_ok-c.ensures.makes)
    (λ packet v r.
    let ro = t.grows.run packet v r in
    ap (λ (k : ℕ). bits_from (joined (w - 1) (k ∷ v c.in_ok-rest.rest ∷ [])) 0 w) (o.value packet v ro ∙ ap (λ (k : ℕ). low 1 (2 ^ 64 - 1 - k)) (s.value packet v (o.grows.run packet v ro)))
    ∙ ap (λ (k : ℕ). bits_from (joined (w - 1) (low 1 (2 ^ 64 - 1 - bits_from (v c.args.a) (w - 1) 1) ∷ k ∷ [])) 0 w) (t.value packet v r)
    ∙ turned_is c.args.width (v c.args.a))

pub returns-clause-rises : goal.returns-clause-rises
returns-clause-rises c = rises_then (stand_more (stand_more (stand_more stand_none c.in_ok-sign.ensures.rises (λ row p. omega arith)) c.in_ok-other.ensures.rises (λ row p. omega arith)) c.in_ok-rest.ensures.rises (λ row p. omega arith)) c.in_ok-c.ensures.rises (λ row p. omega arith)
