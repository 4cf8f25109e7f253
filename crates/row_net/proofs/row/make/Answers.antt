use Rattle.std.proofs.Common.{◌≡◌, ◌∙◌, ◌<◌, ◌≤◌, false, All, List, length, map, refl, sym, ap, subst, arith}
use Rattle.std.proofs.lemmas.List.{length-map}
use Rattle.overlay_net.specs.cell_core.Cells.{CellView, cell_at, number, bits_from}
use Rattle.overlay_net.specs.cell_core.Formed.{IsInRange}
use Rattle.overlay_net.specs.cell_core.View.{cell_of}
use Rattle.cell_nets.specs.Computing.{is_outside, makes_product, taken, HasDivisor}
use Rattle.cell_nets.specs.Operands.{number_in, IsOperand}
use Rattle.cell_nets.specs.Wires.{wires_of, GivesBy}
use Rattle.row_net.specs.Table.{IsIn, AreOperands}
use Rattle.row_net.proofs.RowLemmas.{args_all, cell_row, no_packet}
use Rattle.row_net.proofs.row.make.Goals as goal
use Rattle.row_plan.proofs.cell_core_laws.ViewLaws.{cell_is}

pub operands-requires : goal.operands-requires
operands-requires g c =
    let cells : List CellView = map cell_of c.args.cells.now in
    let here : cell_at cells c.args.number ≡ cell_of c.index-cells-number.result = cell_is c.args.cells.now c.args.number c.index-cells-number.result c.requires.within c.index-cells-number.is in
    subst (λ t. All (IsIn t) c.deref-2.result.now) (sym c.deref.ensures.value) (subst (All (IsIn c.args.table.now.items)) (ap (λ (v : CellView). v.ins) here ∙ sym c.deref-2.ensures) c.requires.inputs)

pub overflow_cast-cell-2 : goal.overflow_cast-cell-2
overflow_cast-cell-2 g c =
    let here = cell_is c.args.cells.now c.args.number c.index-cells-number.result c.requires.within c.index-cells-number.is in
    let small : c.index-cells-number.result.width ≤ 64 = subst (λ (v : CellView). v.width ≤ 64) here (c.requires.formed.each c.args.number (omega (arith, c.requires.within, length-map c.args.cells.now cell_of))).width in
    omega (arith, small)

pub overflow_cast-cell-3 : goal.overflow_cast-cell-3
overflow_cast-cell-3 g c =
    let here = cell_is c.args.cells.now c.args.number c.index-cells-number.result c.requires.within c.index-cells-number.is in
    let small : c.index-cells-number.result.from ≤ 63 = subst (λ (v : CellView). v.from ≤ 63) here (c.requires.formed.each c.args.number (omega (arith, c.requires.within, length-map c.args.cells.now cell_of))).from in
    omega (arith, small)

pub cell_wires-requires : goal.cell_wires-requires
cell_wires-requires g c =
    let cells : List CellView = map cell_of c.args.cells.now in
    let here : cell_at cells c.args.number ≡ cell_of c.index-cells-number.result = cell_is c.args.cells.now c.args.number c.index-cells-number.result c.requires.within c.index-cells-number.is in
    let f = c.requires.formed.each c.args.number (omega (arith, c.requires.within, length-map c.args.cells.now cell_of)) in
    let o : AreOperands c.args.table.now.items c.deref-2.result.now c.in_ok-args.args.items = subst (λ t. AreOperands t c.deref-2.result.now c.in_ok-args.args.items) c.deref.ensures.value c.in_ok-args.ensures in
    record {
      computed = subst (λ (v : CellView). is_outside v.op ≡ false) here c.requires.computed;
      in_range = subst (λ (v : CellView). IsInRange v.op) here f.in_range;
      operands = subst (All IsOperand) (sym c.deref-3.ensures.value) (args_all IsOperand c.args.table.now.items c.deref-2.result.now c.in_ok-args.args.items o c.requires.table.operand);
      width = subst (λ (v : CellView). v.width ≤ 64) here f.width;
      from = subst (λ (v : CellView). v.from ≤ 63) here f.from;
    }

pub returns : goal.returns
returns g c =
    let cells : List CellView = map cell_of c.args.cells.now in
    let k = c.args.number in
    let table = c.args.table.now.items in
    let args = c.in_ok-args.args.items in
    let old = wires_of c.args.wires.now.items in
    let new = wires_of c.cell_wires.new.wires.items in
    let out = c.in_ok-out.out in
    let here : cell_at cells k ≡ cell_of c.index-cells-number.result = cell_is c.args.cells.now k c.index-cells-number.result c.requires.within c.index-cells-number.is in
    let inside : k < length cells = omega (arith, c.requires.within, length-map c.args.cells.now cell_of) in
    let o : AreOperands table (cell_at cells k).ins args =
    subst (λ l. AreOperands table l args) (c.deref-2.ensures ∙ sym (ap (λ (v : CellView). v.ins) here)) (subst (λ t. AreOperands t c.deref-2.result.now args) c.deref.ensures.value c.in_ok-args.ensures) in
    cell_row c.args.part cells k old new table _ args out no_packet inside (c.requires.formed.each k inside) c.requires.table o refl
    (λ packet.
    subst (λ (v : CellView). GivesBy (makes_product v.op) c.args.part old new (taken v.op args) (HasDivisor v.op args) (λ e. bits_from (number packet v.op (map (number_in e) args)) v.from v.width) v.width out) (sym here)
    (subst (λ l. GivesBy (makes_product c.index-cells-number.result.op) c.args.part old new (taken c.index-cells-number.result.op l) (HasDivisor c.index-cells-number.result.op l) (λ e. bits_from (number packet c.index-cells-number.result.op (map (number_in e) l)) c.index-cells-number.result.from c.index-cells-number.result.width) c.index-cells-number.result.width out)
    c.deref-3.ensures.value (c.in_ok-out.ensures packet)))
