use Rattle.std.proofs.Common.{sym, ap, subst, refl, to_z-of_z, ℕ, ◌+◌, slice_range, pos}
use Rattle.cell_core.specs.xdp_machine.Values as is
use Rattle.kind_core.specs.Numbers.{any_bytes}
use Rattle.kind_core.specs.declared.kind.Kind.TheVariants.{Num, Packet}
use Rattle.register_cells.proofs.Loads.{packet_gives, packet_none}
use Rattle.register_cells.proofs.Signed.{Extends, signed_gives, signed_none, packet_unknown}
use Rattle.register_cells.proofs.LoadRows.{packet_to, signed_to, signed_unknown}
use Rattle.register_cells.proofs.loading.signed_from_packet.Goals as goal

pub returns-in_ok-c-in-Some-clause-gives : goal.returns-in_ok-c-in-Some-clause-gives
returns-in_ok-c-in-Some-clause-gives c = λ decls ps node.
    let e = rw (to_z-of_z c.ranges.offset) at c.in-Some.ensures.value in
    signed_gives decls ps node c.args.kinds.now c.args.held.now _ _ _ (Packet c.args.o) c.args.offset c.args.size (λ m. is.Packet (pos c.args.o)) c.in_ok-p-in-Some.p c.in_ok-c-in-Some.c refl
    (packet_gives decls ps node c.args.kinds.now c.args.held.now _ _ c.args.o c.args.offset c.args.size c.in-Some.at c.in_ok-p-in-Some.p _ c.are_whole.ensures.window
    (sym e) c.in-Some.ensures.within (ap (λ (k : ℕ). slice_range c.args.held.now.window c.in-Some.at (c.in-Some.at + k)) c.bytes_in.ensures.value) c.in_ok-p-in-Some.ensures.makes)
    (λ n f. subst (Extends _ _ c.args.size c.in_ok-p-in-Some.p c.in_ok-c-in-Some.c) (sym (packet_unknown decls c.args.kinds.now c.args.o c.args.offset c.args.size n f)) (c.in_ok-c-in-Some.ensures.finds (any_bytes c.args.size) (ap Num c.any_bytes.ensures)))

pub returns-in-None-clause-gives : goal.returns-in-None-clause-gives
returns-in-None-clause-gives c = λ decls ps node. let e = rw (to_z-of_z c.ranges.offset) at c.in-None.ensures.value in
    signed_none decls c.args.kinds.now (Packet c.args.o) c.args.offset c.args.size _ refl (packet_none decls c.args.kinds.now c.args.o c.args.offset c.args.size _ (sym e))

pub returns-in_ok-c-in-Some-clause-rows : goal.returns-in_ok-c-in-Some-clause-rows
returns-in_ok-c-in-Some-clause-rows c = λ decls ps.
    let e = rw (to_z-of_z c.ranges.offset) at c.in-Some.ensures.value in
    signed_to decls ps c.args.kinds.now _ _ _ (Packet c.args.o) c.args.offset c.args.size c.in_ok-p-in-Some.p c.in_ok-c-in-Some.c _ refl
    (packet_to decls ps c.args.kinds.now c.args.held.now _ _ c.args.o c.args.offset c.args.size c.in-Some.at c.in_ok-p-in-Some.p _ c.are_whole.ensures.window
    (sym e) c.in-Some.ensures.within (ap (λ (k : ℕ). slice_range c.args.held.now.window c.in-Some.at (c.in-Some.at + k)) c.bytes_in.ensures.value) c.in_ok-p-in-Some.ensures.rises)
    (λ n f. signed_unknown ps _ _ c.args.size n c.in_ok-p-in-Some.p c.in_ok-c-in-Some.c (packet_unknown decls c.args.kinds.now c.args.o c.args.offset c.args.size n f) (c.in_ok-c-in-Some.ensures.rows ps (any_bytes c.args.size) (ap Num c.any_bytes.ensures)))

pub returns-in-None-clause-rows : goal.returns-in-None-clause-rows
returns-in-None-clause-rows c = λ decls ps. let e = rw (to_z-of_z c.ranges.offset) at c.in-None.ensures.value in
    signed_none decls c.args.kinds.now (Packet c.args.o) c.args.offset c.args.size _ refl (packet_none decls c.args.kinds.now c.args.o c.args.offset c.args.size _ (sym e))
