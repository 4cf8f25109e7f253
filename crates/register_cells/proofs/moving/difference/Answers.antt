use Rattle.std.proofs.Common.{sym, ◌∙◌}
use Rattle.cell_core.specs.bpf_isa.declared.operation.Src.TheVariants.{K}
use Rattle.register_cells.proofs.Moved.{less_yields, less_left, distance_yields}
use Rattle.register_cells.proofs.MovingRows.{difference_to, distance_to}
use Rattle.register_cells.proofs.moving.difference.Goals as goal

pub returns-in_ok-c-in-Num-a-clause-yields : goal.returns-in_ok-c-in-Num-a-clause-yields
returns-in_ok-c-in-Num-a-clause-yields c = λ decls ps ca cb. less_yields decls ps _ _ c.args.p c.args.q c.in_ok-c-in-Num-a.c _ _ c.in-Num-a.is c.in-Num.is (c.in_ok-c-in-Num-a.ensures.finds K)

pub returns-in_ok-c-in-Num-a-clause-rows : goal.returns-in_ok-c-in-Num-a-clause-rows
returns-in_ok-c-in-Num-a-clause-rows c = λ decls ps. difference_to ps c.args.p c.args.q _ _ c.in-Num-a.is c.in-Num.is decls (c.in_ok-c-in-Num-a.ensures.rows K ps)

pub returns-in_default-a-clause-yields : goal.returns-in_default-a-clause-yields
returns-in_default-a-clause-yields c = λ decls ps ca cb. less_left decls ps _ c.args.p c.args.q _ c.args.a c.args.b c.in-Num.is c.in_default-a.not-Num ca

pub returns-in_ok-c-in_default-2-clause-yields : goal.returns-in_ok-c-in_default-2-clause-yields
returns-in_ok-c-in_default-2-clause-yields c = λ decls ps ca cb.
    let distance = c.in_ok-c-in_default-2.ensures in
    distance_yields decls ps _ _ c.args.a c.args.p c.args.b c.args.q c.in_ok-c-in_default-2.c (sym c.are_known.ensures ∙ c.if-are_known.false) c.in_default.not-Num distance.small.0 distance.small.1 ca cb distance.makes

pub returns-in_ok-c-in_default-2-clause-rows : goal.returns-in_ok-c-in_default-2-clause-rows
returns-in_ok-c-in_default-2-clause-rows c = λ decls ps.
    distance_to decls ps c.args.a c.args.p c.args.b c.args.q c.in_ok-c-in_default-2.c (sym c.are_known.ensures ∙ c.if-are_known.false) c.in_default.not-Num c.in_ok-c-in_default-2.ensures.rises
