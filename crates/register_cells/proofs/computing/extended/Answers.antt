use Rattle.std.proofs.Common.{arith}
use Rattle.register_cells.proofs.ValueLaws.{value_risen}
use Rattle.register_cells.proofs.computing.extended.Goals as goal

pub returns-in_ok-c-in-Between-clause-rows : goal.returns-in_ok-c-in-Between-clause-rows
returns-in_ok-c-in-Between-clause-rows c = λ ps. rw c.in-Between.is (value_risen ps c.in_ok-c-in-Between.ensures.rises (λ row. omega arith))
