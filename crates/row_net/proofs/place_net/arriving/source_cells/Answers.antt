use Rattle.std.proofs.Common.{get_or, map as map_list, arith}
use Rattle.std.proofs.lemmas.List.{length-map}
use Rattle.overlay_net.specs.cell_core.View.{cell_of}
use Rattle.cell_nets.specs.Wires.{wires_of}
use Rattle.row_net.proofs.PlaceNet.SourceLemmas.{sourced_at, sourced_next}
use Rattle.row_net.proofs.place_net.arriving.source_cells.Goals as goal

pub loop-number-preserved : goal.loop-number-preserved
loop-number-preserved g c =
    let p = c.args.part in
    let s = c.args.sources in
    let list = c.args.kept.now in
    let cells = c.args.cells.now in
    let i = c.loop-number.number-index in
    let mid = wires_of c.loop-number.wires.items in
    let new = wires_of c.one_source.new.wires.items in
    let now = c.loop-number.table.items in
    let source = c.requires.listed i 0 c.loop-number-test.true in
    sourced_next p s list (map_list cell_of cells) c.args.listed.now i (wires_of c.args.wires.now.items) mid new c.args.table.now.items now _ c.loop-number-test.true c.loop-number.invariant
    (sourced_at p s list cells (get_or c.args.listed.now i 0) c.index-cells-number.result mid new now c.in_ok-operand.operand c.loop-number.invariant.table source (omega (arith, source.within, length-map cells cell_of)) c.index-cells-number.is c.in_ok-operand.ensures)
