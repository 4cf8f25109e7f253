use Rattle.register_cells.proofs.LoadRows.{part_yields, part_rows}
use Rattle.register_cells.proofs.loading.from_slot.Goals as goal

pub returns-in_ok-c-in-Dw-clause-rows : goal.returns-in_ok-c-in-Dw-clause-rows
returns-in_ok-c-in-Dw-clause-rows c = λ ps. rw c.in-Dw.is (c.in_ok-c-in-Dw.ensures.rows ps)

pub returns-in_ok-c-in-Num-clause-yields : goal.returns-in_ok-c-in-Num-clause-yields
returns-in_ok-c-in-Num-clause-yields c = λ decls ps counts. rw c.in-Num.is (part_yields decls ps _ _ c.args.size c.args.at c.in-Num.n c.args.p _ c.in_default.not-Dw c.in_ok-c-in-Num.ensures.finds)

pub returns-in_ok-c-in-Num-clause-rows : goal.returns-in_ok-c-in-Num-clause-rows
returns-in_ok-c-in-Num-clause-rows c = λ ps. rw c.in-Num.is (part_rows ps _ _ c.args.size c.args.at c.in-Num.n _ _ c.in_default.not-Dw (c.in_ok-c-in-Num.ensures.rows ps))
