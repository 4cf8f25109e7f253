use Rattle.operator_cells.proofs.Division.{divides_some, divider_light}
use Rattle.std.proofs.Common.{arith}
use Rattle.operator_cells.proofs.RisingLaws.{added_rises, stand_none, stand_more, rises_then}
use Rattle.operator_cells.proofs.cells.divide_some.Goals as goal

pub returns-clause-makes : goal.returns-clause-makes
returns-clause-makes c = divides_some _ _ _ _ c.args.rest c.args.a c.args.b _ _ _ c.args.width c.requires.left c.requires.right c.requires.least c.requires.most
    c.in_ok-own.ensures c.in_ok-divisor.ensures (rw c.divider.ensures at c.in_ok-c.ensures)

pub returns-clause-rises : goal.returns-clause-rises
returns-clause-rises c = rises_then (stand_more (stand_more stand_none (added_rises _ _ _ _ c.in_ok-own.ensures) (λ row p. omega arith)) (added_rises _ _ _ _ c.in_ok-divisor.ensures) (λ row p. omega arith)) (added_rises _ _ _ _ (rw c.divider.ensures at c.in_ok-c.ensures)) (λ row p. omega (arith, divider_light c.args.rest))
