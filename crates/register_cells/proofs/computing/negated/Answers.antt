use Rattle.std.proofs.Common.{arith}
use Rattle.register_cells.proofs.ValueLaws.{value_risen}
use Rattle.register_cells.proofs.computing.negated.Goals as goal

pub returns-in_ok-c-in-Unknown-clause-rows : goal.returns-in_ok-c-in-Unknown-clause-rows
returns-in_ok-c-in-Unknown-clause-rows c = λ ps. rw c.in-Unknown.is (value_risen ps c.in_ok-c-in-Unknown.ensures.rises (λ row. omega arith))
