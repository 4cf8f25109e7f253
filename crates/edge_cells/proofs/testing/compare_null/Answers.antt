use Rattle.std.proofs.Common.{sym, ◌∙◌, arith}
use Rattle.operator_cells.proofs.RisingLaws.{stand_none, stand_more, rises_then}
use Rattle.edge_cells.proofs.Tested.{null_equal, null_other}
use Rattle.edge_cells.proofs.testing.compare_null.Goals as goal

pub returns-then-is_equal-clause-makes : goal.returns-then-is_equal-clause-makes
returns-then-is_equal-clause-makes c = null_equal _ _ _ _ _ _ _ c.values_fit.ensures c.requires.formed c.requires.there (sym c.is_equal.ensures ∙ c.if-is_equal.true) c.in_ok-zero.ensures.makes c.in_ok-null.ensures.makes

pub returns-clause-makes : goal.returns-clause-makes
returns-clause-makes c = null_other _ _ _ _ _ _ _ _ _ c.values_fit.ensures c.requires.formed c.requires.there (sym c.is_equal.ensures ∙ c.if-is_equal.false) c.in_ok-zero.ensures.makes c.in_ok-null.ensures.makes c.in_ok-c.ensures.makes

pub returns-then-is_equal-clause-rises : goal.returns-then-is_equal-clause-rises
returns-then-is_equal-clause-rises c = rises_then (stand_more stand_none c.in_ok-zero.ensures.rises (λ row p. omega arith)) c.in_ok-null.ensures.rises (λ row p. omega (arith, p.1))

pub returns-clause-rises : goal.returns-clause-rises
returns-clause-rises c = rises_then (stand_more (stand_more stand_none c.in_ok-zero.ensures.rises (λ row p. omega arith)) c.in_ok-null.ensures.rises (λ row p. omega (arith, p.1)))
    c.in_ok-c.ensures.rises (λ row p. omega (arith, p.0.1, p.1))
