use Rattle.std.proofs.Common.{sym, ap, to_z-of_z, ℕ, ◌+◌, slice_range}
use Rattle.register_cells.proofs.Loads.{packet_gives, packet_none}
use Rattle.register_cells.proofs.LoadRows.{packet_to}
use Rattle.register_cells.proofs.loading.from_packet.Goals as goal

pub returns-in_ok-c-in-Some-clause-gives : goal.returns-in_ok-c-in-Some-clause-gives
returns-in_ok-c-in-Some-clause-gives c = λ decls ps node.
    let e = rw (to_z-of_z c.ranges.offset) at c.in-Some.ensures.value in
    packet_gives decls ps node c.args.kinds.now c.args.held.now _ _ c.args.o c.args.offset c.args.size c.in-Some.at c.in_ok-c-in-Some.c _ c.are_whole.ensures.window
    (sym e) c.in-Some.ensures.within (ap (λ (k : ℕ). slice_range c.args.held.now.window c.in-Some.at (c.in-Some.at + k)) c.bytes_in.ensures.value) c.in_ok-c-in-Some.ensures.makes

pub returns-in-None-clause-gives : goal.returns-in-None-clause-gives
returns-in-None-clause-gives c = λ decls ps node. let e = rw (to_z-of_z c.ranges.offset) at c.in-None.ensures.value in packet_none decls c.args.kinds.now c.args.o c.args.offset c.args.size _ (sym e)

pub returns-in_ok-c-in-Some-clause-rows : goal.returns-in_ok-c-in-Some-clause-rows
returns-in_ok-c-in-Some-clause-rows c = λ decls ps.
    let e = rw (to_z-of_z c.ranges.offset) at c.in-Some.ensures.value in
    packet_to decls ps c.args.kinds.now c.args.held.now _ _ c.args.o c.args.offset c.args.size c.in-Some.at c.in_ok-c-in-Some.c _ c.are_whole.ensures.window
    (sym e) c.in-Some.ensures.within (ap (λ (k : ℕ). slice_range c.args.held.now.window c.in-Some.at (c.in-Some.at + k)) c.bytes_in.ensures.value) c.in_ok-c-in-Some.ensures.rises

pub returns-in-None-clause-rows : goal.returns-in-None-clause-rows
returns-in-None-clause-rows c = λ decls ps. let e = rw (to_z-of_z c.ranges.offset) at c.in-None.ensures.value in packet_none decls c.args.kinds.now c.args.o c.args.offset c.args.size _ (sym e)
