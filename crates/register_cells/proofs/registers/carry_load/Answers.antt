use Rattle.std.proofs.Common.{ap, refl}
use Rattle.cell_core.specs.bpf_isa.declared.operation.Op.TheVariants as op
use Rattle.kind_core.specs.Profile.{writes_destination}
use Rattle.register_cells.proofs.Carrying.{carried_by}
use Rattle.register_cells.proofs.Known.{give_as}
use Rattle.register_cells.proofs.RegisterRows.{carried_to, load_to}
use Rattle.register_cells.proofs.PointingLaws.{given_keeps}
use Rattle.register_cells.proofs.registers.carry_load.Goals as goal

pub returns-clause-carries : goal.returns-clause-carries
returns-clause-carries c = λ decls ps node is_ref allowed inside.
    carried_by decls ps c.args.insn.now node is_ref c.args.kinds.now c.args.held.now _ _ c.in_ok-c.c (ap writes_destination c.requires.op) c.requires.insn.dst_register c.are_whole.ensures.registers c.are_whole.ensures.register_cells inside allowed
    (λ refs. give_as decls ps refs node is_ref c.args.kinds.now c.args.held.now c.args.insn.now _ _ c.in_ok-c.c _ (op.Load c.args.size) c.requires.op (c.in_ok-c.ensures.gives decls ps refs node inside))

pub returns-clause-rows : goal.returns-clause-rows
returns-clause-rows c = λ decls ps node is_ref allowed.
    carried_to _ _ decls ps c.args.insn.now node is_ref c.args.kinds.now c.args.held.now c.in_ok-c.c c.requires.inside.2.offsets (ap writes_destination c.requires.op) c.requires.insn.dst_register c.are_whole.ensures.registers c.are_whole.ensures.register_cells allowed
    (λ after. load_to _ _ ps c.args.held.now c.args.kinds.now decls is_ref after c.args.insn.now c.in_ok-c.c _ (op.Load c.args.size) c.requires.op (c.in_ok-c.ensures.rows decls ps after))

pub returns-clause-points : goal.returns-clause-points
returns-clause-points c = λ decls node is_ref allowed.
    given_keeps decls c.args.kinds.now c.args.held.now c.args.insn.now node is_ref c.in_ok-c.c (op.Load c.args.size) c.requires.inside.2.offsets c.requires.op refl c.requires.insn.dst_register c.are_whole.ensures.registers c.are_whole.ensures.register_cells allowed (c.in_ok-c.ensures.points decls)
