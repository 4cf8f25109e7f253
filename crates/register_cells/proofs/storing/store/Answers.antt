use Rattle.std.proofs.Common.{OnOk, refl, to_z-of_z, pos}
use Rattle.operator_cells.specs.HeldCells.Pointing.{KeepPointers}
use Rattle.std.specs.Int.{w16}
use Rattle.cell_core.specs.xdp_machine.Values as is
use Rattle.cell_core.specs.xdp_machine.Step as step
use Rattle.kind_core.specs.Effects.{operand}
use Rattle.kind_core.specs.declared.kind.Kind.TheVariants.{Packet, Stack}
use Rattle.operator_cells.proofs.HeldCells.PointerLaws.{never_var}
use Rattle.register_cells.proofs.Known.{imm_fits, operand_counts, operand_read}
use Rattle.register_cells.proofs.Loads.{register_is}
use Rattle.register_cells.proofs.Stores.{store_as, store_refused}
use Rattle.register_cells.proofs.StoreRows.{store_to}
use Rattle.register_cells.proofs.PointingLaws.{operand_held, packet_kept, stored_as}
use Rattle.register_cells.proofs.storing.store.Goals as goal

pub returns-in-Packet-clause-leaves : goal.returns-in-Packet-clause-leaves
returns-in-Packet-clause-leaves c = λ decls node is_ref inside.
    store_as c.to_packet.result decls _ node is_ref c.args.kinds.now c.args.held.now c.to_packet.new.held c.args.insn.now _ _ (Packet c.in-Packet.o) (is.Packet (pos c.in-Packet.o)) c.args.size
    (operand c.args.kinds.now c.args.insn.now c.args.src) c.operand-b.result (λ m. step.operand m.registers c.args.insn.now c.args.src) c.in-Packet.is
    (to_z-of_z {w = w16} (record { sfits = c.requires.insn.offset_range.sfits })) c.operand-b.ensures
    (λ packet v m known. register_is decls packet v _ node c.args.kinds.now c.args.held.now m _ _ known c.in-Packet.is)
    (c.to_packet.ensures.leaves decls _ node is_ref (λ m. step.operand m.registers c.args.insn.now c.args.src) inside
    (λ packet v m known. rw c.operand-b.ensures (operand_read decls packet v _ node c.args.kinds.now c.args.held.now m c.args.insn.now c.args.src
    (imm_fits c.args.insn.now.op c.args.insn.now.imm c.requires.insn.imm_range) known c.requires.insn.src_register)))

pub returns-in-Stack-clause-leaves : goal.returns-in-Stack-clause-leaves
returns-in-Stack-clause-leaves c = λ decls node is_ref inside.
    store_as c.to_stack.result decls _ node is_ref c.args.kinds.now c.args.held.now c.to_stack.new.held c.args.insn.now _ _ (Stack _) (is.Stack _) c.args.size
    (operand c.args.kinds.now c.args.insn.now c.args.src) c.operand-b.result (λ m. step.operand m.registers c.args.insn.now c.args.src) c.in-Stack.is
    (to_z-of_z {w = w16} (record { sfits = c.requires.insn.offset_range.sfits })) c.operand-b.ensures
    (λ packet v m known. register_is decls packet v _ node c.args.kinds.now c.args.held.now m _ _ known c.in-Stack.is)
    (c.to_stack.ensures.leaves decls node is_ref _ (λ m. step.operand m.registers c.args.insn.now c.args.src) c.in-Stack.is inside
    (rw c.operand-b.ensures (operand_counts decls _ _ c.args.held.now c.args.kinds.now c.args.insn.now c.args.src c.requires.insn.src_register inside))
    (λ packet v m known. rw c.operand-b.ensures (operand_read decls packet v _ node c.args.kinds.now c.args.held.now m c.args.insn.now c.args.src
    (imm_fits c.args.insn.now.op c.args.insn.now.imm c.requires.insn.imm_range) known c.requires.insn.src_register)))

pub returns-in_default-clause-leaves : goal.returns-in_default-clause-leaves
returns-in_default-clause-leaves c = λ decls node is_ref inside.
    store_refused decls c.args.kinds.now _ c.args.insn.now.offset c.args.size (operand c.args.kinds.now c.args.insn.now c.args.src) _ c.in_default.not-Packet c.in_default.not-Stack c.requires.plain (never_var c.requires.inside.1 c.requires.insn.dst_register)

pub returns-in-Packet-clause-rows : goal.returns-in-Packet-clause-rows
returns-in-Packet-clause-rows c = λ decls node is_ref.
    store_to c.to_packet.result decls _ node is_ref c.args.kinds.now c.args.held.now c.to_packet.new.held c.args.insn.now _ _ (Packet c.in-Packet.o) c.args.size
    (operand c.args.kinds.now c.args.insn.now c.args.src) c.operand-b.result _ c.in-Packet.is
    (to_z-of_z {w = w16} (record { sfits = c.requires.insn.offset_range.sfits })) c.operand-b.ensures (c.to_packet.ensures.rows decls _ node is_ref)

pub returns-in-Stack-clause-rows : goal.returns-in-Stack-clause-rows
returns-in-Stack-clause-rows c = λ decls node is_ref.
    store_to c.to_stack.result decls _ node is_ref c.args.kinds.now c.args.held.now c.to_stack.new.held c.args.insn.now _ _ (Stack _) c.args.size
    (operand c.args.kinds.now c.args.insn.now c.args.src) c.operand-b.result _ c.in-Stack.is
    (to_z-of_z {w = w16} (record { sfits = c.requires.insn.offset_range.sfits })) c.operand-b.ensures (c.to_stack.ensures.rows decls node is_ref _ c.in-Stack.is)

pub returns-in_default-clause-rows : goal.returns-in_default-clause-rows
returns-in_default-clause-rows c = λ decls node is_ref.
    store_refused decls c.args.kinds.now _ c.args.insn.now.offset c.args.size (operand c.args.kinds.now c.args.insn.now c.args.src) _ c.in_default.not-Packet c.in_default.not-Stack c.requires.plain (never_var c.requires.inside.1 c.requires.insn.dst_register)

pub returns-in-Packet-clause-points : goal.returns-in-Packet-clause-points
returns-in-Packet-clause-points c = λ decls node is_ref.
    stored_as decls c.args.kinds.now c.args.size _ c.in-Packet.is refl refl
    (packet_kept (λ after. OnOk c.to_packet.result (KeepPointers c.args.kinds.now c.args.held.now after c.to_packet.new.held)) decls node is_ref c.args.kinds.now _ c.args.insn.now.offset c.args.size _ (c.to_packet.ensures.points c.args.kinds.now))

pub returns-in-Stack-clause-points : goal.returns-in-Stack-clause-points
returns-in-Stack-clause-points c = λ decls node is_ref.
    stored_as decls c.args.kinds.now c.args.size _ c.in-Stack.is (to_z-of_z {w = w16} (record { sfits = c.requires.insn.offset_range.sfits })) c.operand-b.ensures
    (c.to_stack.ensures.points decls node is_ref _ c.in-Stack.is (rw c.operand-b.ensures (operand_held c.args.kinds.now c.args.held.now c.args.insn.now c.args.src c.requires.insn.src_register)))

pub returns-in_default-clause-points : goal.returns-in_default-clause-points
returns-in_default-clause-points c = λ decls node is_ref.
    store_refused decls c.args.kinds.now _ c.args.insn.now.offset c.args.size (operand c.args.kinds.now c.args.insn.now c.args.src) _ c.in_default.not-Packet c.in_default.not-Stack c.requires.plain (never_var c.requires.inside.1 c.requires.insn.dst_register)
