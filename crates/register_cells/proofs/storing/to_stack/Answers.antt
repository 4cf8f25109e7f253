use Rattle.std.proofs.Common.{◌<◌, sym, arith, to_z-of_z}
use Rattle.register_cells.proofs.Loads.{some_bytes}
use Rattle.register_cells.proofs.Stores.{stack_stores, stack_refused}
use Rattle.register_cells.proofs.StoreRows.{stack_stores_to}
use Rattle.register_cells.proofs.PointingLaws.{stack_keeps}
use Rattle.register_cells.proofs.storing.to_stack.Goals as goal

pub returns-in_ok-c-in-Some-clause-leaves : goal.returns-in_ok-c-in-Some-clause-leaves
returns-in_ok-c-in-Some-clause-leaves c = λ decls node is_ref o t base inside counts source.
    let e = rw (to_z-of_z c.ranges.offset) at (c.in-Some.ensures.value o base) in
    let within : c.in-Some.at < 512 = omega (arith, c.in-Some.ensures.within, some_bytes c.args.size) in
    stack_stores decls _ node is_ref c.args.kinds.now c.args.held.now _ _ o c.args.offset c.args.size c.args.b c.args.q t c.in-Some.at c.in_ok-c-in-Some.c c.are_whole.ensures.slots c.are_whole.ensures.slot_cells
    within (sym e) inside source (c.in_ok-c-in-Some.ensures.fills decls counts)

pub returns-in-None-clause-leaves : goal.returns-in-None-clause-leaves
returns-in-None-clause-leaves c = λ decls node is_ref o t base inside counts source.
    let e = rw (to_z-of_z c.ranges.offset) at (c.in-None.ensures.value o base) in
    stack_refused decls c.args.kinds.now o c.args.offset c.args.size c.args.b _ (sym e)

pub returns-in_ok-c-in-Some-clause-rows : goal.returns-in_ok-c-in-Some-clause-rows
returns-in_ok-c-in-Some-clause-rows c = λ decls node is_ref o base.
    let e = rw (to_z-of_z c.ranges.offset) at (c.in-Some.ensures.value o base) in
    stack_stores_to _ decls node is_ref c.args.kinds.now c.args.held.now _ _ o c.args.offset c.args.size c.args.b c.args.q c.in-Some.at c.in_ok-c-in-Some.c c.are_whole.ensures.slots c.are_whole.ensures.slot_cells
    (omega (arith, c.in-Some.ensures.within, some_bytes c.args.size)) c.in-Some.ensures.slot (sym e) c.in_ok-c-in-Some.ensures.rows

pub returns-in-None-clause-rows : goal.returns-in-None-clause-rows
returns-in-None-clause-rows c = λ decls node is_ref o base.
    let e = rw (to_z-of_z c.ranges.offset) at (c.in-None.ensures.value o base) in
    stack_refused decls c.args.kinds.now o c.args.offset c.args.size c.args.b _ (sym e)

pub returns-in_ok-c-in-Some-clause-points : goal.returns-in_ok-c-in-Some-clause-points
returns-in_ok-c-in-Some-clause-points c = λ decls node is_ref o base source.
    let e = rw (to_z-of_z c.ranges.offset) at (c.in-Some.ensures.value o base) in
    stack_keeps decls node is_ref c.args.kinds.now c.args.held.now o c.args.offset c.args.size c.args.b c.args.q c.in-Some.at c.in_ok-c-in-Some.c c.are_whole.ensures.slots c.are_whole.ensures.slot_cells
    (omega (arith, c.in-Some.ensures.within, some_bytes c.args.size)) (sym e) source c.in_ok-c-in-Some.ensures.points

pub returns-in-None-clause-points : goal.returns-in-None-clause-points
returns-in-None-clause-points c = λ decls node is_ref o base source.
    let e = rw (to_z-of_z c.ranges.offset) at (c.in-None.ensures.value o base) in
    stack_refused decls c.args.kinds.now o c.args.offset c.args.size c.args.b _ (sym e)
