use Rattle.std.proofs.Common.{◌<◌, ◌/◌, sym, refl, arith, to_z-of_z}
use Rattle.cell_core.specs.xdp_machine.Values as is
use Rattle.kind_core.specs.declared.kind.Kind.TheVariants.{Stack}
use Rattle.register_cells.proofs.Loads.{stack_gives, stack_none, some_bytes}
use Rattle.register_cells.proofs.Signed.{signed_gives, signed_none, stack_found}
use Rattle.register_cells.proofs.LoadRows.{stack_to, signed_to, slot_signed}
use Rattle.register_cells.proofs.loading.signed_from_stack.Goals as goal

pub returns-in_ok-c-in-Some-clause-gives : goal.returns-in_ok-c-in-Some-clause-gives
returns-in_ok-c-in-Some-clause-gives c = λ decls ps node o base inside.
    let e = rw (to_z-of_z c.ranges.offset) at (c.in-Some.ensures.value o base) in
    let within : c.in-Some.at < 512 = omega (arith, c.in-Some.ensures.within, some_bytes c.args.size) in
    let slot : c.in-Some.at / 8 < 64 = omega (arith, within) in
    signed_gives decls ps node c.args.kinds.now c.args.held.now _ _ _ (Stack o) c.args.offset c.args.size (λ m. is.Stack o) c.in_ok-p-in-Some.p c.in_ok-c-in-Some.c refl
    (stack_gives decls ps node c.args.kinds.now c.args.held.now _ _ o c.args.offset c.args.size c.in-Some.at c.in_ok-p-in-Some.p within
    (sym e) (c.in_ok-p-in-Some.ensures.yields decls ps (inside.slots _ slot)))
    (stack_found decls c.args.kinds.now _ _ o c.args.offset c.args.size c.in-Some.at c.in_ok-p-in-Some.p c.in_ok-c-in-Some.c (sym e) c.in_ok-c-in-Some.ensures.finds)

pub returns-in-None-clause-gives : goal.returns-in-None-clause-gives
returns-in-None-clause-gives c = λ decls ps node o base inside. let e = rw (to_z-of_z c.ranges.offset) at (c.in-None.ensures.value o base) in
    signed_none decls c.args.kinds.now (Stack o) c.args.offset c.args.size _ refl (stack_none decls c.args.kinds.now o c.args.offset c.args.size _ (sym e))

pub returns-in_ok-c-in-Some-clause-rows : goal.returns-in_ok-c-in-Some-clause-rows
returns-in_ok-c-in-Some-clause-rows c = λ decls ps o base.
    let e = rw (to_z-of_z c.ranges.offset) at (c.in-Some.ensures.value o base) in
    signed_to decls ps c.args.kinds.now _ _ _ (Stack o) c.args.offset c.args.size c.in_ok-p-in-Some.p c.in_ok-c-in-Some.c _ refl
    (stack_to decls ps c.args.kinds.now c.args.held.now _ _ o c.args.offset c.args.size c.in-Some.at c.in_ok-p-in-Some.p (omega (arith, c.in-Some.ensures.within, some_bytes c.args.size)) (sym e) (c.in_ok-p-in-Some.ensures.rows ps))
    (slot_signed decls ps c.args.kinds.now _ _ o c.args.offset c.args.size c.in-Some.at c.in_ok-p-in-Some.p c.in_ok-c-in-Some.c (sym e) (c.in_ok-c-in-Some.ensures.rows ps))

pub returns-in-None-clause-rows : goal.returns-in-None-clause-rows
returns-in-None-clause-rows c = λ decls ps o base. let e = rw (to_z-of_z c.ranges.offset) at (c.in-None.ensures.value o base) in
    signed_none decls c.args.kinds.now (Stack o) c.args.offset c.args.size _ refl (stack_none decls c.args.kinds.now o c.args.offset c.args.size _ (sym e))
