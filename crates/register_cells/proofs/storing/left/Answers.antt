use Rattle.register_cells.proofs.StoreRows.{number_rises}
use Rattle.register_cells.proofs.storing.left.Goals as goal

pub returns-in_ok-c-in-Num-clause-rises : goal.returns-in_ok-c-in-Num-clause-rises
returns-in_ok-c-in-Num-clause-rises c = number_rises _ _ _ c.args.kind c.in-Num.n c.args.p _ c.in-Num.is c.in_ok-c-in-Num.ensures.rises
