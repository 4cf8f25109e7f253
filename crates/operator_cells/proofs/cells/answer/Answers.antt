use Rattle.std.proofs.Common.{arith, refl}
use Rattle.operator_cells.proofs.Growing.{added_grows}
use Rattle.operator_cells.proofs.RisingLaws.{added_rises}
use Rattle.operator_cells.proofs.cells.answer.Goals as goal

pub returns-clause-grows : goal.returns-clause-grows
returns-clause-grows c = added_grows _ _ _ _ c.args.site c.in_ok-c.ensures (record {
  earlier = c.requires.earlier;
  enough = omega arith;
  inputs = tt;
  alone = tt;
  in_range = tt;
  width = c.requires.width;
  from = omega arith;
  divisor = λ formed d. absurd (cc);
  later = λ d. absurd (cc);
}) refl

pub returns-clause-rises : goal.returns-clause-rises
returns-clause-rises c = added_rises _ _ _ _ c.in_ok-c.ensures
