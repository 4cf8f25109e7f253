use Rattle.std.proofs.Common.{arith, refl}
use Rattle.operator_cells.proofs.Growing.{added_makes}
use Rattle.operator_cells.proofs.RisingLaws.{added_rises, rises_by}
use Rattle.operator_cells.proofs.cells.pending.Goals as goal

pub returns-clause-grows : goal.returns-clause-grows
returns-clause-grows c = (added_makes _ _ _ _ c.in_ok-c.ensures (record {
  earlier = c.requires;
  enough = omega arith;
  inputs = tt;
  alone = tt;
  in_range = tt;
  width = omega arith;
  from = omega arith;
  divisor = λ formed d. absurd (cc);
  later = λ d. absurd (cc);
}) refl).grows

pub returns-clause-rises : goal.returns-clause-rises
returns-clause-rises c = rises_by (added_rises _ _ _ _ c.in_ok-c.ensures) (λ row. omega arith)
