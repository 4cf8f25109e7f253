use Rattle.cell_core.specs.bpf_isa.declared.operation.Src.TheVariants.{K}
use Rattle.register_cells.proofs.Moved.{sum_yields, sum_right, sum_left}
use Rattle.register_cells.proofs.MovingRows.{sum_to}
use Rattle.register_cells.proofs.moving.sum.Goals as goal

pub returns-in_ok-c-in-Num-b-clause-rows : goal.returns-in_ok-c-in-Num-b-clause-rows
returns-in_ok-c-in-Num-b-clause-rows c = λ decls ps. sum_to ps c.args.p c.args.q _ _ c.in-Num.is c.in-Num-b.is decls (c.in_ok-c-in-Num-b.ensures.rows K ps)

pub returns-in_ok-c-in-Num-b-clause-yields : goal.returns-in_ok-c-in-Num-b-clause-yields
returns-in_ok-c-in-Num-b-clause-yields c = λ decls ps ca cb. sum_yields decls ps _ _ c.args.p c.args.q c.in_ok-c-in-Num-b.c _ _ c.in-Num.is c.in-Num-b.is (c.in_ok-c-in-Num-b.ensures.finds K)

pub returns-in_default-b-clause-yields : goal.returns-in_default-b-clause-yields
returns-in_default-b-clause-yields c = λ decls ps ca cb. sum_right decls ps _ c.args.p c.args.q _ c.args.a c.args.b c.in-Num.is c.in_default-b.not-Num cb

pub returns-in_default-clause-yields : goal.returns-in_default-clause-yields
returns-in_default-clause-yields c = λ decls ps ca cb. sum_left decls ps _ c.args.p c.args.q c.args.a c.args.b c.in_default.not-Num ca
