use Rattle.std.proofs.Common.{arith}
use Rattle.xdp_machine.specs.Arithmetic.{low, bits_in, holds}
use Rattle.cell_core.specs.Cells.{bit}
use Rattle.operator_cells.proofs.RisingLaws.{stand_none, stand_more, rises_then}
use Rattle.operator_cells.proofs.MakingLaws.{made_of_two}
use Rattle.edge_cells.proofs.testing.compare_numbers.Goals as goal

pub returns-clause-makes : goal.returns-clause-makes
returns-clause-makes c = made_of_two (λ a b. bit (holds c.args.code (bits_in c.args.width) (low (bits_in c.args.width) a) (low (bits_in c.args.width) b)))
    c.in_ok-a.ensures.makes c.in_ok-b.ensures.makes c.in_ok-c.ensures.makes

pub returns-clause-rises : goal.returns-clause-rises
returns-clause-rises c = rises_then (stand_more (stand_more stand_none c.in_ok-a.ensures.rises (λ row p. omega arith)) c.in_ok-b.ensures.rises (λ row p. omega arith)) c.in_ok-c.ensures.rises (λ row p. omega (arith, p.0.1, p.1))
