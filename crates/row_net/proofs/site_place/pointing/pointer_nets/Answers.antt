use Rattle.std.proofs.Common.{◌≡◌, ◌<◌, ℕ, List, length, map, refl, sym, subst, arith, slice_index}
use Rattle.std.proofs.lemmas.List.{length-map, get_or_default}
use Rattle.overlay_net.specs.cell_core.Cells.{CellView, cell_at}
use Rattle.overlay_net.specs.cell_core.View.{cell_of}
use Rattle.cell_nets.specs.declared.operand.Operand.{Operand}
use Rattle.cell_nets.specs.Operands.{IsOperand}
use Rattle.cell_nets.specs.Wires.{wires_of, HasBits}
use Rattle.row_net.specs.Table.{Stands, IsIn}
use Rattle.row_net.specs.SitePlace.Pointing.{Takes}
use Rattle.row_net.specs.SitePlace.PointerNets.{GivesPointer}
use Rattle.row_net.proofs.SitePlace.PointingLemmas.{pointers_more, takes_now}
use Rattle.row_net.proofs.site_place.pointing.pointer_nets.Goals as goal
use Rattle.row_plan.proofs.cell_core_laws.ViewLaws.{cell_is}

pub pointer-requires-clause-takes : goal.pointer-requires-clause-takes
pointer-requires-clause-takes g c =
    let cells : List CellView = map cell_of c.args.cells.now in
    let i : ℕ = c.loop-number.number-index in
    let k : ℕ = slice_index c.args.made.now i in
    let table = c.args.table.now in
    let now = c.loop-number.pointers.items in
    let within : k < length c.args.cells.now = omega (arith, c.requires.pointed.within i 0 c.loop-number-test.true, length-map c.args.cells.now cell_of) in
    let here : cell_at cells k ≡ cell_of c.index-cells-number.result = cell_is c.args.cells.now k c.index-cells-number.result within c.index-cells-number.is in
    subst (λ q. Takes (IsIn table) (IsIn q) c.index-cells-number.result.op c.index-cells-number.result.ins.items) (sym c.deref.ensures.value)
    (subst (λ (x : CellView). Takes (IsIn table) (IsIn now) x.op x.ins) here
    (takes_now c.args.part cells c.args.bits c.args.made.now i table (wires_of c.args.wires.now.items) (wires_of c.loop-number.wires.items) c.args.pointers.now.items now c.loop-number-test.true c.requires.pointed c.loop-number.invariant))

pub pointer-requires-clause-pointers : goal.pointer-requires-clause-pointers
pointer-requires-clause-pointers g c = subst (λ q. (k : ℕ) (a : Operand _) → Stands q k a → IsOperand a) (sym c.deref.ensures.value) c.loop-number.invariant.pointers.operand

pub pointer-requires-clause-wide : goal.pointer-requires-clause-wide
pointer-requires-clause-wide g c = subst (λ q. (k : ℕ) (a : Operand _) → Stands q k a → HasBits c.args.bits a) (sym c.deref.ensures.value) c.loop-number.invariant.pointers.wide

pub index_mut-requires : goal.index_mut-requires
index_mut-requires g c = omega (arith, c.requires.pointed.within c.loop-number.number-index 0 c.loop-number-test.true, c.loop-number.invariant.pointers.count)

pub loop-number-preserved : goal.loop-number-preserved
loop-number-preserved g c =
    let cells : List CellView = map cell_of c.args.cells.now in
    let i : ℕ = c.loop-number.number-index in
    let k : ℕ = slice_index c.args.made.now i in
    let old = wires_of c.args.wires.now.items in
    let mid = wires_of c.loop-number.wires.items in
    let new = wires_of c.pointer.new.wires.items in
    let before = c.args.pointers.now.items in
    let now = c.loop-number.pointers.items in
    let out = c.in_ok-out.out in
    let within : k < length c.args.cells.now = omega (arith, c.requires.pointed.within i 0 c.loop-number-test.true, length-map c.args.cells.now cell_of) in
    let here : cell_at cells k ≡ cell_of c.index-cells-number.result = cell_is c.args.cells.now k c.index-cells-number.result within c.index-cells-number.is in
    let gives : GivesPointer c.args.part c.args.bits (cell_at cells k).op (cell_at cells k).ins c.args.table.now now mid new out =
    subst (λ (x : CellView). GivesPointer c.args.part c.args.bits x.op x.ins c.args.table.now now mid new out) (sym here)
    (subst (λ q. GivesPointer c.args.part c.args.bits c.index-cells-number.result.op (cell_of c.index-cells-number.result).ins c.args.table.now q mid new out) c.deref.ensures.value c.in_ok-out.ensures) in
    pointers_more c.args.part cells c.args.bits c.args.made.now i k c.args.table.now old mid new before now _ out c.loop-number-test.true (get_or_default c.args.made.now i 0 k c.loop-number-test.true) (c.requires.pointed.within i 0 c.loop-number-test.true)
    c.loop-number.invariant gives refl
