use Rattle.std.proofs.Common.{unsigned_abs}
use Rattle.kind_core.specs.Numbers.{end_bits}
use Rattle.cell_core.specs.bpf_isa.declared.operation.Op.TheVariants as op
use Rattle.register_cells.proofs.Known.{give_as, only_constant, gives_nothing}
use Rattle.register_cells.proofs.RegisterRows.{give_to, give_later, give_end, give_swap, give_nothing}
use Rattle.register_cells.specs.Pointing.{MovesHeld}
use Rattle.register_cells.proofs.PointingLaws.{constant_held}
use Rattle.register_cells.proofs.registers.give.Goals as goal

pub returns-in_ok-c-in-Alu-clause-gives : goal.returns-in_ok-c-in-Alu-clause-gives
returns-in_ok-c-in-Alu-clause-gives c = λ decls ps refs node is_ref inside.
    give_as decls ps refs node is_ref c.args.kinds.now c.args.held.now c.args.insn.now _ _ c.in_ok-c-in-Alu.c _ (op.Alu _ _ _) c.in-Alu.is (c.in_ok-c-in-Alu.ensures.gives decls ps refs node inside)

pub returns-in_ok-c-in-Neg-clause-gives : goal.returns-in_ok-c-in-Neg-clause-gives
returns-in_ok-c-in-Neg-clause-gives c = λ decls ps refs node is_ref inside.
    give_as decls ps refs node is_ref c.args.kinds.now c.args.held.now c.args.insn.now _ _ c.in_ok-c-in-Neg.c _ (op.Neg _) c.in-Neg.is (c.in_ok-c-in-Neg.ensures.gives decls ps node)

pub returns-in_ok-c-in-End-clause-gives : goal.returns-in_ok-c-in-End-clause-gives
returns-in_ok-c-in-End-clause-gives c = λ decls ps refs node is_ref inside.
    give_as decls ps refs node is_ref c.args.kinds.now c.args.held.now c.args.insn.now _ _ c.in_ok-c-in-End.c _ (op.End _) c.in-End.is (c.in_ok-c-in-End.ensures.gives (end_bits (unsigned_abs c.args.insn.now.imm)) decls ps node)

pub returns-in_ok-c-in-Swap-clause-gives : goal.returns-in_ok-c-in-Swap-clause-gives
returns-in_ok-c-in-Swap-clause-gives c = λ decls ps refs node is_ref inside.
    give_as decls ps refs node is_ref c.args.kinds.now c.args.held.now c.args.insn.now _ _ c.in_ok-c-in-Swap.c _ op.Swap c.in-Swap.is (c.in_ok-c-in-Swap.ensures.gives 64 decls ps node)

pub returns-in_default-clause-gives : goal.returns-in_default-clause-gives
returns-in_default-clause-gives c = λ decls ps refs node is_ref inside.
    gives_nothing decls ps refs node is_ref c.args.kinds.now c.args.held.now c.args.insn.now _ _ c.args.insn.now.op c.in_default.not-Alu c.in_default.not-Neg c.in_default.not-End c.in_default.not-Swap c.requires.plain

pub returns-in_ok-c-in-Alu-clause-rows : goal.returns-in_ok-c-in-Alu-clause-rows
returns-in_ok-c-in-Alu-clause-rows c = λ decls ps is_ref after. give_to _ _ ps c.args.held.now c.args.kinds.now decls is_ref after c.args.insn.now c.in_ok-c-in-Alu.c _ (op.Alu _ _ _) c.in-Alu.is (c.in_ok-c-in-Alu.ensures.rows decls ps after)

pub returns-in_ok-c-in-Neg-clause-rows : goal.returns-in_ok-c-in-Neg-clause-rows
returns-in_ok-c-in-Neg-clause-rows c = λ decls ps is_ref after. give_to _ _ ps c.args.held.now c.args.kinds.now decls is_ref after c.args.insn.now c.in_ok-c-in-Neg.c _ (op.Neg _) c.in-Neg.is (give_later _ _ ps c.args.held.now c.args.kinds.now decls is_ref after c.args.insn.now c.in_ok-c-in-Neg.c _ (c.in_ok-c-in-Neg.ensures.rows ps))

pub returns-in_ok-c-in-End-clause-rows : goal.returns-in_ok-c-in-End-clause-rows
returns-in_ok-c-in-End-clause-rows c = λ decls ps is_ref after. give_to _ _ ps c.args.held.now c.args.kinds.now decls is_ref after c.args.insn.now c.in_ok-c-in-End.c _ (op.End _) c.in-End.is (give_end _ _ ps c.args.held.now c.args.kinds.now decls is_ref after c.args.insn.now c.in_ok-c-in-End.c _ (c.in_ok-c-in-End.ensures.rows (end_bits (unsigned_abs c.args.insn.now.imm)) ps))

pub returns-in_ok-c-in-Swap-clause-rows : goal.returns-in_ok-c-in-Swap-clause-rows
returns-in_ok-c-in-Swap-clause-rows c = λ decls ps is_ref after. give_to _ _ ps c.args.held.now c.args.kinds.now decls is_ref after c.args.insn.now c.in_ok-c-in-Swap.c _ op.Swap c.in-Swap.is (give_swap _ _ ps c.args.held.now c.args.kinds.now decls is_ref after c.args.insn.now c.in_ok-c-in-Swap.c (c.in_ok-c-in-Swap.ensures.rows 64 ps))

pub returns-in_default-clause-rows : goal.returns-in_default-clause-rows
returns-in_default-clause-rows c = λ decls ps is_ref after. give_nothing _ ps c.args.held.now c.args.kinds.now decls is_ref after c.args.insn.now _ c.args.insn.now.op c.in_default.not-Alu c.in_default.not-Neg c.in_default.not-End c.in_default.not-Swap c.requires.plain

pub returns-in_default-clause-points : goal.returns-in_default-clause-points
returns-in_default-clause-points c = λ decls is_ref.
    only_constant decls is_ref c.args.kinds.now c.args.insn.now (λ op x. MovesHeld c.args.kinds.now c.args.held.now x 0) c.args.insn.now.op c.in_default.not-Alu c.in_default.not-Neg c.in_default.not-End c.in_default.not-Swap c.requires.plain
    (constant_held c.args.kinds.now c.args.held.now is_ref c.args.insn.now.imm 0)
