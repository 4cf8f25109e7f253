use Rattle.std.proofs.Common.{arith}
use Rattle.std.proofs.lemmas.Result.{IfOk-weaker}
use Rattle.operator_cells.proofs.RisingLaws.{rises_by}
use Rattle.operator_cells.proofs.sharing.shared_slice.Goals as goal

pub returns-clause-rises : goal.returns-clause-rises
returns-clause-rises c = IfOk-weaker _ _ _ (λ n r. rises_by r (λ row. omega arith)) c.share.ensures.rises
