use Rattle.operator_cells.proofs.RisingLaws.{rises_by}
use Rattle.register_cells.proofs.ValueLaws.{zero_most}
use Rattle.register_cells.proofs.storing.nothing.Goals as goal

pub returns-clause-rises : goal.returns-clause-rises
returns-clause-rises c = rises_by c.in_ok-c-2.ensures.rises (λ row. zero_most)
