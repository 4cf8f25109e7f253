use Rattle.std.proofs.Common.{◌+◌}
use Rattle.cell_core.specs.xdp_machine.Arithmetic.{bits_in, negated}
use Rattle.kind_core.specs.Numbers.{number_negated}
use Rattle.register_cells.proofs.RegisterRows.{renumbered_to}
use Rattle.register_cells.proofs.Made.{renumbered_gives}
use Rattle.register_cells.proofs.registers.negate.Goals as goal

pub returns-in_ok-c-in-Num-clause-gives : goal.returns-in_ok-c-in-Num-clause-gives
returns-in_ok-c-in-Num-clause-gives c = λ decls ps node.
    renumbered_gives decls ps node c.args.kinds.now c.args.held.now c.args.insn.now (number_negated c.args.width) (negated (bits_in c.args.width)) _ _ _ c.in_ok-c-in-Num.c c.requires.dst c.in-Num.is c.in_ok-c-in-Num.ensures.finds

pub returns-in_ok-c-in-Num-clause-rows : goal.returns-in_ok-c-in-Num-clause-rows
returns-in_ok-c-in-Num-clause-rows c = λ ps. renumbered_to ps c.args.held.now c.args.kinds.now c.args.insn.now (number_negated c.args.width) _ c.in_ok-c-in-Num.c (λ n. n + 1) c.requires.dst c.in-Num.is (c.in_ok-c-in-Num.ensures.rows ps)
