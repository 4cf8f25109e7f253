use Rattle.std.proofs.Common.{to_z-of_z, refl}
use Rattle.kind_core.specs.declared.kind.Kind.TheVariants.{Packet, Stack}
use Rattle.std.specs.Int.{w16}
use Rattle.register_cells.proofs.Loads.{load_packet, load_stack, load_context, load_other}
use Rattle.operator_cells.proofs.HeldCells.PointerLaws.{never_var}
use Rattle.register_cells.proofs.LoadRows.{load_to, load_context_to}
use Rattle.register_cells.proofs.PointingLaws.{packet_held, load_held, context_held}
use Rattle.register_cells.proofs.loading.loaded_plain.Goals as goal

pub returns-in_ok-c-in-Packet-clause-gives : goal.returns-in_ok-c-in-Packet-clause-gives
returns-in_ok-c-in-Packet-clause-gives c = λ decls ps refs node inside.
    load_packet decls ps refs node c.args.kinds.now c.args.held.now c.args.insn.now _ _ c.in-Packet.o c.args.size c.in_ok-c-in-Packet.c c.in-Packet.is (to_z-of_z {w = w16} (record { sfits = c.requires.offset.sfits })) (c.in_ok-c-in-Packet.ensures.gives decls ps node)

pub returns-in_ok-c-in-Stack-clause-gives : goal.returns-in_ok-c-in-Stack-clause-gives
returns-in_ok-c-in-Stack-clause-gives c = λ decls ps refs node inside.
    load_stack decls ps refs node c.args.kinds.now c.args.held.now c.args.insn.now _ _ _ c.args.size c.in_ok-c-in-Stack.c c.in-Stack.is (to_z-of_z {w = w16} (record { sfits = c.requires.offset.sfits })) (c.in_ok-c-in-Stack.ensures.gives decls ps node _ c.in-Stack.is inside)

pub returns-in_ok-c-in-Ctx-clause-gives : goal.returns-in_ok-c-in-Ctx-clause-gives
returns-in_ok-c-in-Ctx-clause-gives c = λ decls ps refs node inside.
    load_context decls ps refs node c.args.kinds.now c.args.held.now c.args.insn.now _ _ c.args.size c.in_ok-c-in-Ctx.c c.in-Ctx.is (to_z-of_z {w = w16} (record { sfits = c.requires.offset.sfits })) (c.in_ok-c-in-Ctx.ensures.gives decls ps node c.args.kinds.now c.args.held.now)

pub returns-in_default-clause-gives : goal.returns-in_default-clause-gives
returns-in_default-clause-gives c = λ decls ps refs node inside. load_other decls c.args.kinds.now _ c.args.insn.now.offset c.args.size _ c.in_default.not-Ctx c.in_default.not-Packet c.in_default.not-Stack c.requires.plain (never_var c.requires.inside.2 c.requires.src)

pub returns-in_ok-c-in-Packet-clause-rows : goal.returns-in_ok-c-in-Packet-clause-rows
returns-in_ok-c-in-Packet-clause-rows c = λ decls ps after.
    load_to decls ps c.args.kinds.now after c.args.held.now c.args.insn.now _ _ (Packet c.in-Packet.o) c.args.size c.in_ok-c-in-Packet.c refl c.in-Packet.is (to_z-of_z {w = w16} (record { sfits = c.requires.offset.sfits })) (c.in_ok-c-in-Packet.ensures.rows decls ps)

pub returns-in_ok-c-in-Stack-clause-rows : goal.returns-in_ok-c-in-Stack-clause-rows
returns-in_ok-c-in-Stack-clause-rows c = λ decls ps after.
    load_to decls ps c.args.kinds.now after c.args.held.now c.args.insn.now _ _ (Stack _) c.args.size c.in_ok-c-in-Stack.c refl c.in-Stack.is (to_z-of_z {w = w16} (record { sfits = c.requires.offset.sfits })) (c.in_ok-c-in-Stack.ensures.rows decls ps _ c.in-Stack.is)

pub returns-in_ok-c-in-Ctx-clause-rows : goal.returns-in_ok-c-in-Ctx-clause-rows
returns-in_ok-c-in-Ctx-clause-rows c = λ decls ps after.
    load_context_to decls ps c.args.kinds.now after c.args.held.now c.args.insn.now _ _ c.args.size c.in_ok-c-in-Ctx.c c.in-Ctx.is (to_z-of_z {w = w16} (record { sfits = c.requires.offset.sfits })) (c.in_ok-c-in-Ctx.ensures.rows ps)

pub returns-in_default-clause-rows : goal.returns-in_default-clause-rows
returns-in_default-clause-rows c = λ decls ps after. load_other decls c.args.kinds.now _ c.args.insn.now.offset c.args.size _ c.in_default.not-Ctx c.in_default.not-Packet c.in_default.not-Stack c.requires.plain (never_var c.requires.inside.2 c.requires.src)

pub returns-in_ok-c-in-Ctx-clause-points : goal.returns-in_ok-c-in-Ctx-clause-points
returns-in_ok-c-in-Ctx-clause-points c = λ decls. context_held decls c.args.kinds.now c.args.held.now c.in_ok-c-in-Ctx.c c.args.insn.now c.args.size c.in-Ctx.is

pub returns-in_ok-c-in-Packet-clause-points : goal.returns-in_ok-c-in-Packet-clause-points
returns-in_ok-c-in-Packet-clause-points c = λ decls.
    load_held decls c.args.kinds.now c.args.held.now c.in_ok-c-in-Packet.c c.args.insn.now c.args.size c.in-Packet.is refl refl (packet_held decls c.args.kinds.now c.args.held.now c.in_ok-c-in-Packet.c c.in-Packet.o c.args.insn.now.offset c.args.size)

pub returns-in_ok-c-in-Stack-clause-points : goal.returns-in_ok-c-in-Stack-clause-points
returns-in_ok-c-in-Stack-clause-points c = λ decls.
    load_held decls c.args.kinds.now c.args.held.now c.in_ok-c-in-Stack.c c.args.insn.now c.args.size c.in-Stack.is (to_z-of_z {w = w16} (record { sfits = c.requires.offset.sfits })) refl (c.in_ok-c-in-Stack.ensures.points decls _ c.in-Stack.is)

pub returns-in_default-clause-points : goal.returns-in_default-clause-points
returns-in_default-clause-points c = λ decls. load_other decls c.args.kinds.now _ c.args.insn.now.offset c.args.size _ c.in_default.not-Ctx c.in_default.not-Packet c.in_default.not-Stack c.requires.plain (never_var c.requires.inside.2 c.requires.src)
