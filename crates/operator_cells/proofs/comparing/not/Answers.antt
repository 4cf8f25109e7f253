use Rattle.std.proofs.Common.{arith}
use Rattle.operator_cells.proofs.RisingLaws.{rises_by}
use Rattle.operator_cells.proofs.comparing.not.Goals as goal

pub returns-clause-rises : goal.returns-clause-rises
returns-clause-rises c = rises_by c.in_ok-c.ensures.rises (λ row. omega arith)
