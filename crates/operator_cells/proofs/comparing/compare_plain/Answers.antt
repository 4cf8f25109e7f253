use Rattle.std.proofs.Common.{arith}
use Rattle.std.proofs.lemmas.Result.{IfOk-weaker}
use Rattle.operator_cells.proofs.RisingLaws.{rises_by}
use Rattle.operator_cells.proofs.comparing.compare_plain.Goals as goal

pub returns-in-Jgt-clause-rises : goal.returns-in-Jgt-clause-rises
returns-in-Jgt-clause-rises c = IfOk-weaker _ _ _ (λ n r. rises_by r (λ row. omega arith)) c.less.ensures.rises

pub returns-in-Jge-clause-rises : goal.returns-in-Jge-clause-rises
returns-in-Jge-clause-rises c = IfOk-weaker _ _ _ (λ n r. rises_by r (λ row. omega arith)) c.at_most.ensures.rises
