use Rattle.std.proofs.Common.{unsigned_abs}
use Rattle.kind_core.specs.Numbers.{number_ordered}
use Rattle.register_cells.proofs.MovingRows.{value_ordered}
use Rattle.register_cells.proofs.RegisterRows.{renumbered_to}
use Rattle.register_cells.proofs.Made.{ordered_gives}
use Rattle.register_cells.proofs.registers.order.Goals as goal

pub returns-in_ok-c-in-Num-clause-gives : goal.returns-in_ok-c-in-Num-clause-gives
returns-in_ok-c-in-Num-clause-gives c = λ most decls ps node.
    ordered_gives decls ps node c.args.kinds.now c.args.held.now c.args.insn.now most c.args.end _ _ _ c.in_ok-c-in-Num.c c.requires.bits c.requires.dst c.in-Num.is (c.in_ok-c-in-Num.ensures.finds most)

pub returns-in_ok-c-in-Num-clause-rows : goal.returns-in_ok-c-in-Num-clause-rows
returns-in_ok-c-in-Num-clause-rows c = λ most ps. renumbered_to ps c.args.held.now c.args.kinds.now c.args.insn.now (number_ordered most c.args.end (unsigned_abs c.args.insn.now.imm)) _ c.in_ok-c-in-Num.c (λ n. n) c.requires.dst c.in-Num.is
    (value_ordered ps most c.args.end _ (unsigned_abs c.args.insn.now.imm) _ (c.in_ok-c-in-Num.ensures.rows most ps))
