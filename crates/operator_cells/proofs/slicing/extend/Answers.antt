use Rattle.std.proofs.Common.{arith}
use Rattle.operator_cells.proofs.RisingLaws.{rises_by}
use Rattle.operator_cells.proofs.slicing.extend.Goals as goal

pub returns-then-count-eq0-clause-rises : goal.returns-then-count-eq0-clause-rises
returns-then-count-eq0-clause-rises c = rises_by c.in_ok-c.ensures.rises (λ row. omega arith)

pub returns-clause-rises : goal.returns-clause-rises
returns-clause-rises c = rises_by c.in_ok-c-2.ensures.rises (λ row. omega arith)
