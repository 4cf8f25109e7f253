use Rattle.std.proofs.Common.{to_z-of_z, pos}
use Rattle.std.specs.Int.{w16}
use Rattle.cell_core.specs.xdp_machine.Values as is
use Rattle.kind_core.specs.declared.kind.Kind.TheVariants.{Packet, Stack}
use Rattle.register_cells.proofs.Loads.{register_is}
use Rattle.register_cells.proofs.Signed.{signed_as, signed_other}
use Rattle.operator_cells.proofs.HeldCells.PointerLaws.{never_var}
use Rattle.register_cells.proofs.LoadRows.{load_signed_to}
use Rattle.register_cells.proofs.loading.loaded_signed.Goals as goal

pub returns-in_ok-c-in-Packet-clause-gives : goal.returns-in_ok-c-in-Packet-clause-gives
returns-in_ok-c-in-Packet-clause-gives c = λ decls ps refs node inside.
    signed_as decls ps refs node c.args.kinds.now c.args.held.now c.args.insn.now _ _ (Packet c.in-Packet.o) (is.Packet (pos c.in-Packet.o)) c.args.size c.in_ok-c-in-Packet.c c.in-Packet.is (to_z-of_z {w = w16} (record { sfits = c.requires.offset.sfits }))
    (λ packet v m known. register_is decls packet v ps node c.args.kinds.now c.args.held.now m _ (Packet c.in-Packet.o) known c.in-Packet.is) (c.in_ok-c-in-Packet.ensures.gives decls ps node)

pub returns-in_ok-c-in-Stack-clause-gives : goal.returns-in_ok-c-in-Stack-clause-gives
returns-in_ok-c-in-Stack-clause-gives c = λ decls ps refs node inside.
    signed_as decls ps refs node c.args.kinds.now c.args.held.now c.args.insn.now _ _ (Stack _) (is.Stack _) c.args.size c.in_ok-c-in-Stack.c c.in-Stack.is (to_z-of_z {w = w16} (record { sfits = c.requires.offset.sfits }))
    (λ packet v m known. register_is decls packet v ps node c.args.kinds.now c.args.held.now m _ _ known c.in-Stack.is) (c.in_ok-c-in-Stack.ensures.gives decls ps node _ c.in-Stack.is inside)

pub returns-in_default-clause-gives : goal.returns-in_default-clause-gives
returns-in_default-clause-gives c = λ decls ps refs node inside. signed_other decls c.args.kinds.now _ c.args.insn.now.offset c.args.size _ c.in_default.not-Packet c.in_default.not-Stack c.requires.plain (never_var c.requires.inside.2 c.requires.src)

pub returns-in_ok-c-in-Packet-clause-rows : goal.returns-in_ok-c-in-Packet-clause-rows
returns-in_ok-c-in-Packet-clause-rows c = λ decls ps after.
    load_signed_to decls ps c.args.kinds.now after c.args.held.now c.args.insn.now _ _ (Packet c.in-Packet.o) c.args.size c.in_ok-c-in-Packet.c c.in-Packet.is (to_z-of_z {w = w16} (record { sfits = c.requires.offset.sfits })) (c.in_ok-c-in-Packet.ensures.rows decls ps)

pub returns-in_ok-c-in-Stack-clause-rows : goal.returns-in_ok-c-in-Stack-clause-rows
returns-in_ok-c-in-Stack-clause-rows c = λ decls ps after.
    load_signed_to decls ps c.args.kinds.now after c.args.held.now c.args.insn.now _ _ (Stack _) c.args.size c.in_ok-c-in-Stack.c c.in-Stack.is (to_z-of_z {w = w16} (record { sfits = c.requires.offset.sfits })) (c.in_ok-c-in-Stack.ensures.rows decls ps _ c.in-Stack.is)

pub returns-in_default-clause-rows : goal.returns-in_default-clause-rows
returns-in_default-clause-rows c = λ decls ps after. signed_other decls c.args.kinds.now _ c.args.insn.now.offset c.args.size _ c.in_default.not-Packet c.in_default.not-Stack c.requires.plain (never_var c.requires.inside.2 c.requires.src)
