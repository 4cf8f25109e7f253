use Rattle.std.proofs.Common.{◌≡◌, length, subst, map as map_list, arith}
use Rattle.std.proofs.lemmas.List.{length-map}
use Rattle.overlay_net.specs.cell_core.View.{cell_of}
use Rattle.row_net.proofs.PlaceNet.PlaceLemmas.{mapped_within}
use Rattle.row_net.proofs.PlaceNet.TakenLemmas.{HasTaken, taken_next, all_taken}
use Rattle.row_net.proofs.place_net.placing.take_registers.Goals as goal

pub loop-i-preserved : goal.loop-i-preserved
loop-i-preserved g c =
    let cells = map_list cell_of c.args.cells.now in
    taken_next c.args.part cells c.args.carried.now c.loop-i.i c.in-Ok.register c.width-width.result c.args.table.now.items c.loop-i.table.items c.loop-i.invariant
    (omega (arith, c.requires.within c.loop-i.i 0 c.loop-i-test.true, c.requires.table.count, c.loop-i.invariant.count, length-map c.args.cells.now cell_of)) c.in-Ok.ensures.1 c.width-width.ensures

pub returns : goal.returns
returns g c =
    let cells = map_list cell_of c.args.cells.now in
    let before = c.args.table.now.items in
    let now = c.loop-i.table.items in
    let whole : c.loop-i.i ≡ length c.args.carried.now = omega (arith, c.loop-i-test.false) in
    all_taken c.args.part cells c.args.carried.now before now c.requires.formed c.requires.table (mapped_within c.args.cells.now c.args.carried.now c.requires.within) c.requires.some
    (subst (λ n. HasTaken c.args.part cells c.args.carried.now n before now) whole c.loop-i.invariant)
