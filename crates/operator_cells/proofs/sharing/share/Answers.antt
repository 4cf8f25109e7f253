use Rattle.operator_cells.proofs.Standing.{stands_makes, stands_rises}
use Rattle.operator_cells.proofs.sharing.share.Goals as goal

pub returns-in-Some-clause-makes : goal.returns-in-Some-clause-makes
returns-in-Some-clause-makes c = stands_makes _ _ _ (rw c.deref.ensures.value at c.in-Some.ensures) c.requires.plain

pub returns-in-Some-clause-rises : goal.returns-in-Some-clause-rises
returns-in-Some-clause-rises c = stands_rises _ _ _ (rw c.deref.ensures.value at c.in-Some.ensures)
