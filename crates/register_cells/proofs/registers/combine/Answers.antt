use Rattle.std.proofs.Common.{to_z-of_z}
use Rattle.std.specs.Int.{w16}
use Rattle.register_cells.proofs.Known.{combine_gives, imm_fits, operand_counts}
use Rattle.register_cells.proofs.RegisterRows.{combine_to}
use Rattle.register_cells.proofs.PointingLaws.{combined_held}
use Rattle.register_cells.proofs.registers.combine.Goals as goal

pub returns-clause-gives : goal.returns-clause-gives
returns-clause-gives c = λ decls ps refs node inside.
    let dst = c.requires.insn.dst_register in
    let src = c.requires.insn.src_register in
    combine_gives decls ps refs node c.args.kinds.now c.args.held.now c.args.insn.now c.args.width c.args.code c.args.src _ _ c.in_ok-c.c _ c.operand-b.result dst src (imm_fits c.args.insn.now.op c.args.insn.now.imm c.requires.insn.imm_range)
    (to_z-of_z {w = w16} (record { sfits = c.requires.insn.offset_range.sfits })) c.operand-b.ensures
    (c.in_ok-c.ensures.yields c.args.src decls ps (inside.registers _ dst) (rw c.operand-b.ensures (operand_counts decls _ ps c.args.held.now c.args.kinds.now c.args.insn.now c.args.src src inside)))

pub returns-clause-rows : goal.returns-clause-rows
returns-clause-rows c = λ decls ps after.
    combine_to ps c.args.held.now c.args.kinds.now decls after c.args.insn.now c.args.width c.args.src c.requires.insn.dst_register c.requires.insn.src_register _ _ c.args.code c.in_ok-c.c _ c.operand-b.result
    (to_z-of_z {w = w16} (record { sfits = c.requires.insn.offset_range.sfits })) c.operand-b.ensures (c.in_ok-c.ensures.rows c.args.src decls ps)

pub returns-clause-points : goal.returns-clause-points
returns-clause-points c = λ decls.
    combined_held c.args.kinds.now c.args.held.now decls c.args.insn.now c.args.width c.args.code c.args.src _ c.operand-b.result c.in_ok-c.c c.requires.insn.dst_register c.requires.insn.src_register
    (to_z-of_z {w = w16} (record { sfits = c.requires.insn.offset_range.sfits })) c.operand-b.ensures (c.in_ok-c.ensures.points c.args.src decls)
