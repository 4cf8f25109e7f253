use Rattle.std.proofs.Common.{refl}
use Rattle.register_cells.proofs.Carrying.{carried_by}
use Rattle.register_cells.proofs.RegisterRows.{carried_to}
use Rattle.register_cells.proofs.PointingLaws.{given_keeps}
use Rattle.register_cells.proofs.registers.carry_computed.Goals as goal

pub returns-clause-carries : goal.returns-clause-carries
returns-clause-carries c = λ decls ps node is_ref allowed inside.
    carried_by decls ps c.args.insn.now node is_ref c.args.kinds.now c.args.held.now _ _ c.in_ok-c.c c.requires.writes c.requires.insn.dst_register c.are_whole.ensures.registers c.are_whole.ensures.register_cells inside allowed
    (λ refs. c.in_ok-c.ensures.gives decls ps refs node is_ref inside)

pub returns-clause-rows : goal.returns-clause-rows
returns-clause-rows c = λ decls ps node is_ref allowed.
    carried_to _ _ decls ps c.args.insn.now node is_ref c.args.kinds.now c.args.held.now c.in_ok-c.c c.requires.inside.2.offsets c.requires.writes c.requires.insn.dst_register c.are_whole.ensures.registers c.are_whole.ensures.register_cells allowed
    (λ after. c.in_ok-c.ensures.rows decls ps is_ref after)

pub returns-clause-points : goal.returns-clause-points
returns-clause-points c = λ decls node is_ref allowed.
    given_keeps decls c.args.kinds.now c.args.held.now c.args.insn.now node is_ref c.in_ok-c.c c.args.insn.now.op c.requires.inside.2.offsets refl c.requires.writes c.requires.insn.dst_register c.are_whole.ensures.registers c.are_whole.ensures.register_cells allowed (c.in_ok-c.ensures.points decls is_ref)
