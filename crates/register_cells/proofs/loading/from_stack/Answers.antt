use Rattle.std.proofs.Common.{◌<◌, ◌/◌, sym, arith, to_z-of_z}
use Rattle.register_cells.proofs.Loads.{stack_gives, stack_none, some_bytes}
use Rattle.register_cells.proofs.LoadRows.{stack_to}
use Rattle.register_cells.proofs.PointingLaws.{found_held}
use Rattle.register_cells.proofs.loading.from_stack.Goals as goal

pub returns-in_ok-c-in-Some-clause-gives : goal.returns-in_ok-c-in-Some-clause-gives
returns-in_ok-c-in-Some-clause-gives c = λ decls ps node o base inside.
    let e = rw (to_z-of_z c.ranges.offset) at (c.in-Some.ensures.value o base) in
    let within : c.in-Some.at < 512 = omega (arith, c.in-Some.ensures.within, some_bytes c.args.size) in
    let slot : c.in-Some.at / 8 < 64 = omega (arith, within) in
    stack_gives decls ps node c.args.kinds.now c.args.held.now _ _ o c.args.offset c.args.size c.in-Some.at c.in_ok-c-in-Some.c within
    (sym e) (c.in_ok-c-in-Some.ensures.yields decls ps (inside.slots _ slot))

pub returns-in-None-clause-gives : goal.returns-in-None-clause-gives
returns-in-None-clause-gives c = λ decls ps node o base inside. let e = rw (to_z-of_z c.ranges.offset) at (c.in-None.ensures.value o base) in stack_none decls c.args.kinds.now o c.args.offset c.args.size _ (sym e)

pub returns-in_ok-c-in-Some-clause-rows : goal.returns-in_ok-c-in-Some-clause-rows
returns-in_ok-c-in-Some-clause-rows c = λ decls ps o base.
    let e = rw (to_z-of_z c.ranges.offset) at (c.in-Some.ensures.value o base) in
    stack_to decls ps c.args.kinds.now c.args.held.now _ _ o c.args.offset c.args.size c.in-Some.at c.in_ok-c-in-Some.c (omega (arith, c.in-Some.ensures.within, some_bytes c.args.size))
    (sym e) (c.in_ok-c-in-Some.ensures.rows ps)

pub returns-in-None-clause-rows : goal.returns-in-None-clause-rows
returns-in-None-clause-rows c = λ decls ps o base. let e = rw (to_z-of_z c.ranges.offset) at (c.in-None.ensures.value o base) in stack_none decls c.args.kinds.now o c.args.offset c.args.size _ (sym e)

pub returns-in_ok-c-in-Some-clause-points : goal.returns-in_ok-c-in-Some-clause-points
returns-in_ok-c-in-Some-clause-points c = λ decls o base.
    let e = rw (to_z-of_z c.ranges.offset) at (c.in-Some.ensures.value o base) in
    found_held decls c.args.kinds.now c.args.held.now c.in_ok-c-in-Some.c o c.args.offset c.args.size c.in-Some.at (omega (arith, c.in-Some.ensures.within, some_bytes c.args.size)) (sym e) c.in_ok-c-in-Some.ensures.points

pub returns-in-None-clause-points : goal.returns-in-None-clause-points
returns-in-None-clause-points c = λ decls o base. let e = rw (to_z-of_z c.ranges.offset) at (c.in-None.ensures.value o base) in stack_none decls c.args.kinds.now o c.args.offset c.args.size _ (sym e)
