use Rattle.std.proofs.Common.{sym, to_z-of_z}
use Rattle.register_cells.proofs.Stores.{packet_stored_by, packet_refused, number_refused}
use Rattle.register_cells.proofs.StoreRows.{packet_stores_to}
use Rattle.register_cells.proofs.storing.to_packet.Goals as goal

pub returns-in-Num-clause-leaves : goal.returns-in-Num-clause-leaves
returns-in-Num-clause-leaves c = λ decls ps node is_ref t inside source.
    let e = rw (to_z-of_z c.ranges.offset) at c.in-Some.ensures.value in
    packet_stored_by c.to_window.result decls ps node is_ref c.args.kinds.now c.args.held.now c.to_window.new.held _ _ c.args.o c.args.offset c.args.size c.args.b c.in-Num.n c.args.q t c.in-Some.at
    c.in-Num.is c.are_whole.ensures.window (sym e) c.in-Some.ensures.within inside source c.to_window.ensures.makes

pub returns-in_default-clause-leaves : goal.returns-in_default-clause-leaves
returns-in_default-clause-leaves c = λ decls ps node is_ref t inside source.
    let e = rw (to_z-of_z c.ranges.offset) at c.in-Some.ensures.value in
    number_refused decls c.args.kinds.now c.args.o c.args.offset c.args.size c.args.b _ c.in-Some.at c.in_default.not-Num (sym e)

pub returns-in-None-clause-leaves : goal.returns-in-None-clause-leaves
returns-in-None-clause-leaves c = λ decls ps node is_ref t inside source.
    let e = rw (to_z-of_z c.ranges.offset) at c.in-None.ensures.value in
    packet_refused decls c.args.kinds.now c.args.o c.args.offset c.args.size c.args.b _ (sym e)

pub returns-in-Num-clause-rows : goal.returns-in-Num-clause-rows
returns-in-Num-clause-rows c = λ decls ps node is_ref.
    let e = rw (to_z-of_z c.ranges.offset) at c.in-Some.ensures.value in
    packet_stores_to c.to_window.result decls ps node is_ref c.args.kinds.now c.args.held.now c.to_window.new.held _ _ c.args.o c.args.offset c.args.size c.args.b c.in-Num.n c.args.q c.in-Some.at
    c.in-Num.is c.are_whole.ensures.window (sym e) c.in-Some.ensures.within c.to_window.ensures.rises

pub returns-in_default-clause-rows : goal.returns-in_default-clause-rows
returns-in_default-clause-rows c = λ decls ps node is_ref.
    let e = rw (to_z-of_z c.ranges.offset) at c.in-Some.ensures.value in
    number_refused decls c.args.kinds.now c.args.o c.args.offset c.args.size c.args.b _ c.in-Some.at c.in_default.not-Num (sym e)

pub returns-in-None-clause-rows : goal.returns-in-None-clause-rows
returns-in-None-clause-rows c = λ decls ps node is_ref.
    let e = rw (to_z-of_z c.ranges.offset) at c.in-None.ensures.value in
    packet_refused decls c.args.kinds.now c.args.o c.args.offset c.args.size c.args.b _ (sym e)
