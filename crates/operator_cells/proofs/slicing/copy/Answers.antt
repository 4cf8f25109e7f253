use Rattle.std.proofs.Common.{◌<◌, ◌^◌, ℕ, sym, ◌∙◌, subst, arith}
use Rattle.operator_cells.specs.Making.{seen}
use Rattle.operator_cells.proofs.Growing.{grown_none, makes_after}
use Rattle.operator_cells.proofs.Numbers.{from_zero, low_same}
use Rattle.operator_cells.proofs.RisingLaws.{rises_by}
use Rattle.operator_cells.proofs.slicing.copy.Goals as goal

pub returns-clause-makes : goal.returns-clause-makes
returns-clause-makes c =
    let width = rw c.deref.ensures.value at c.width_of-width.ensures.width in
    makes_after _ _ _ _ _ _ (grown_none _) c.in_ok-c.ensures.makes
    (λ packet v r. from_zero (v c.args.a) c.width_of-width.result
    ∙ low_same c.width_of-width.result (v c.args.a)
    (subst (λ (n : ℕ). v c.args.a < 2 ^ n) (sym width) (c.values_fit.ensures packet (seen c.args.cells.now.items) v r c.args.a c.requires.there)))

pub returns-clause-rises : goal.returns-clause-rises
returns-clause-rises c = rises_by c.in_ok-c.ensures.rises (λ row. omega arith)
