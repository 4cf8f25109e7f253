use Rattle.std.proofs.Common.{arith}
use Rattle.register_cells.proofs.Stores.{part_fills}
use Rattle.register_cells.proofs.ValueLaws.{value_by}
use Rattle.register_cells.proofs.StoreRows.{part_fills_to}
use Rattle.register_cells.proofs.storing.to_slot.Goals as goal

pub returns-in_ok-c-in-Num-clause-fills : goal.returns-in_ok-c-in-Num-clause-fills
returns-in_ok-c-in-Num-clause-fills c = λ decls counts.
    rw c.in-Num.is (part_fills decls _ c.args.size c.args.at c.args.a c.args.p c.in-Num.n c.args.q _ _ c.in_ok-c-in-Num.c c.in_default.not-Dw c.in_ok-c-in-Num.ensures.finds)

pub returns-in_ok-c-in-Num-clause-rows : goal.returns-in_ok-c-in-Num-clause-rows
returns-in_ok-c-in-Num-clause-rows c =
    rw c.in-Num.is (part_fills_to _ _ _ c.args.size c.args.at c.args.a c.args.p c.in-Num.n c.args.q c.in_ok-c-in-Num.c c.in_default.not-Dw c.in_ok-c-in-Num.ensures.rows)

pub returns-in_ok-c-in-Dw-clause-rows : goal.returns-in_ok-c-in-Dw-clause-rows
returns-in_ok-c-in-Dw-clause-rows c = rw c.in-Dw.is (value_by (c.in_ok-c-in-Dw.ensures.rows _) (λ row. omega arith))
