use Rattle.std.proofs.Common.{ℕ, slice_index, map as map_list, arith}
use Rattle.overlay_net.specs.cell_core.View.{cell_of}
use Rattle.row_net.specs.SitePlace.Inputs.{cell_input}
use Rattle.row_net.proofs.SitePlace.PlacingLemmas.{input_is, inputs_more}
use Rattle.row_net.proofs.site_place.placing.cell_inputs.Goals as goal

pub loop-number-preserved : goal.loop-number-preserved
loop-number-preserved g c =
    let cells = map_list cell_of c.args.cells.now in
    let table = c.args.table.now in
    let i : ℕ = c.loop-number.number-index in
    let k : ℕ = slice_index c.args.carried.now i in
    inputs_more (cell_input cells table) c.args.carried.now i c.loop-number.all.items c.push.new.self.items _ c.in_ok-push.ensures.items c.loop-number-test.true c.loop-number.invariant
    (input_is cells table k c.width-width.result c.index-table-number.result (omega (arith, c.requires.within i 0 c.loop-number-test.true, c.requires.count)) c.index-table-number.is c.width-width.ensures)
