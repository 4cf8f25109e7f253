use Rattle.register_cells.proofs.MovingRows.{computed_to}
use Rattle.register_cells.proofs.moving.computed.Goals as goal

pub returns-in_ok-c-in-Num-b-clause-rows : goal.returns-in_ok-c-in-Num-b-clause-rows
returns-in_ok-c-in-Num-b-clause-rows c = λ s ps. computed_to ps c.args.p c.args.q _ _ c.in-Num.is c.in-Num-b.is c.args.width c.args.code c.args.signed s (c.in_ok-c-in-Num-b.ensures.rows s ps)
