use Rattle.std.proofs.Common.{refl, arith}
use Rattle.operator_cells.proofs.Growing.{grown_none}
use Rattle.operator_cells.proofs.RisingLaws.{rises_none, rises_by}
use Rattle.operator_cells.proofs.dividing.result_sign.Goals as goal

pub returns-then-rest-clause-makes : goal.returns-then-rest-clause-makes
returns-then-rest-clause-makes c = rw c.if-rest.true (record { grows = grown_none _; there = c.requires.left; value = λ packet v r. refl })

pub returns-clause-makes : goal.returns-clause-makes
returns-clause-makes c = rw c.if-rest.false c.in_ok-c.ensures.makes

pub returns-then-rest-clause-rises : goal.returns-then-rest-clause-rises
returns-then-rest-clause-rises c = rises_none _ _ (λ row. omega arith)

pub returns-clause-rises : goal.returns-clause-rises
returns-clause-rises c = rises_by c.in_ok-c.ensures.rises (λ row. omega arith)
