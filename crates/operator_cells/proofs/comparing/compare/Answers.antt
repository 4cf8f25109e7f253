use Rattle.std.proofs.Common.{◌∙◌, ap, sym, arith}
use Rattle.cell_core.specs.xdp_machine.Arithmetic.{bits_in, low}
use Rattle.cell_core.specs.Cells.{bit}
use Rattle.operator_cells.specs.Comparing.{turned, unsigned}
use Rattle.operator_cells.proofs.Growing.{grown, makes_after}
use Rattle.operator_cells.proofs.Numbers.{low_below}
use Rattle.operator_cells.proofs.Conditions.{of_both, holds_plain, holds_signed}
use Rattle.operator_cells.proofs.RisingLaws.{stand_none, stand_more, rises_then}
use Rattle.operator_cells.proofs.comparing.compare.Goals as goal

pub returns-then-is_signed-clause-makes : goal.returns-then-is_signed-clause-makes
returns-then-is_signed-clause-makes c =
    let x = c.in_ok-x.ensures.makes in
    let y = c.in_ok-y.ensures.makes in
    let p = c.in_ok-p.ensures.makes in
    let q = c.in_ok-q.ensures.makes in
    let w = bits_in c.args.width in
    makes_after _ _ _ _ _ _ (grown _ _ _ x.grows (grown _ _ _ y.grows (grown _ _ _ p.grows q.grows))) (rw c.unsigned.ensures at c.in_ok-c.ensures.makes)
    (λ packet v r.
    let rp = q.grows.run packet v r in
    let ry = p.grows.run packet v rp in
    let rx = y.grows.run packet v ry in
    of_both (unsigned c.args.code) 64 _ _ _ _
    (ap (low 64) (p.value packet v rp ∙ ap (turned w) (x.value packet v rx)))
    (ap (low 64) (q.value packet v r ∙ ap (turned w) (y.value packet v ry)))
    ∙ ap bit (holds_signed c.args.code c.args.width (low w (v c.args.a)) (low w (v c.args.b)) (sym c.is_signed.ensures ∙ c.if-is_signed.true) (low_below w (v c.args.a)) (low_below w (v c.args.b))))

pub returns-clause-makes : goal.returns-clause-makes
returns-clause-makes c =
    let x = c.in_ok-x.ensures.makes in
    let y = c.in_ok-y.ensures.makes in
    let w = bits_in c.args.width in
    makes_after _ _ _ _ _ _ (grown _ _ _ x.grows y.grows) c.in_ok-c-2.ensures.makes
    (λ packet v r.
    of_both c.args.code 64 _ _ _ _ (ap (low 64) (x.value packet v (y.grows.run packet v r))) (ap (low 64) (y.value packet v r))
    ∙ ap bit (holds_plain c.args.code c.args.width (low w (v c.args.a)) (low w (v c.args.b)) (sym c.is_signed.ensures ∙ c.if-is_signed.false) (low_below w (v c.args.a)) (low_below w (v c.args.b))))

pub returns-then-is_signed-clause-rises : goal.returns-then-is_signed-clause-rises
returns-then-is_signed-clause-rises c = rises_then (stand_more (stand_more (stand_more (stand_more stand_none c.in_ok-x.ensures.rises (λ row p. omega arith)) c.in_ok-y.ensures.rises (λ row p. omega arith)) c.in_ok-p.ensures.rises (λ row p. omega arith)) c.in_ok-q.ensures.rises (λ row p. omega arith)) c.in_ok-c.ensures.rises (λ row p. omega arith)

pub returns-clause-rises : goal.returns-clause-rises
returns-clause-rises c = rises_then (stand_more (stand_more stand_none c.in_ok-x.ensures.rises (λ row p. omega arith)) c.in_ok-y.ensures.rises (λ row p. omega arith)) c.in_ok-c-2.ensures.rises (λ row p. omega arith)
