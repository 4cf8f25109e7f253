use Rattle.std.proofs.Common.{arith}
use Rattle.operator_cells.proofs.RisingLaws.{rises_by}
use Rattle.site_cells.proofs.WordRows.{number_value}
use Rattle.site_cells.proofs.numbers.number_in.Goals as goal

pub returns-in_ok-c-in-Num-clause-rises : goal.returns-in_ok-c-in-Num-clause-rises
returns-in_ok-c-in-Num-clause-rises c = λ ps. rises_by c.in_ok-c-in-Num.ensures.rises (λ row. number_value row ps _ _ _ c.in-Num.is)

pub returns-in_ok-c-in_default-clause-rises : goal.returns-in_ok-c-in_default-clause-rises
returns-in_ok-c-in_default-clause-rises c = λ ps. rises_by c.in_ok-c-in_default.ensures.rises (λ row. omega arith)
