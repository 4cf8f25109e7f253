use Rattle.operator_cells.proofs.Growing.{grown_none, makes_after}
use Rattle.operator_cells.proofs.Shifts.{lowered_is}
use Rattle.std.proofs.Common.{arith}
use Rattle.operator_cells.proofs.RisingLaws.{rises_by}
use Rattle.operator_cells.proofs.shifting.lower.Goals as goal

pub returns-clause-makes : goal.returns-clause-makes
returns-clause-makes c = makes_after _ _ _ _ _ _ (grown_none _) (rw c.bits.ensures at c.in_ok-c.ensures.makes)
    (λ packet v r. lowered_is c.args.width (v c.args.a) c.args.count c.requires.count)

pub returns-clause-rises : goal.returns-clause-rises
returns-clause-rises c = rises_by c.in_ok-c.ensures.rises (λ row. omega arith)
