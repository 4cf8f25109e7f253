use Rattle.std.proofs.Common.{◌<◌, All, sym, subst, slice_index, map as map_list}
use Rattle.std.specs.Prelude.{IfOk}
use Rattle.block_core.specs.View.{block_of}
use Rattle.hazard_core.specs.cell_core.View.{cell_of, program_of}
use Rattle.overlay_net.specs.cell_nets.Wires.{behind, wires_of}
use Rattle.row_net.specs.PlaceNet.Place.{width_at}
use Rattle.row_net.specs.Apart.{TakeClean}
use Rattle.row_net.specs.Made.{IsReady}
use Rattle.row_net.specs.Table.{IsTable}
use Rattle.row_net.specs.SitePlace.Pointing.{IsPointers, ArePointed}
use Rattle.row_net.specs.SitePlace.SitePlace.{IsSitePlace}
use Rattle.stage_net.proofs.SiteLemmas.{ok_both}
use Rattle.stage_net.proofs.StageLemmas.{alone, all_have, all_have_pointers, is_ready, are_pointed, is_stage}
use Rattle.stage_net.proofs.stage.stage.Goals as goal

pub site_place-requires-clause-table : goal.site_place-requires-clause-table
site_place-requires-clause-table g c =
    let after = c.reads.new.table.items in
    let read = c.in_ok-reads.ensures in
    subst (λ l. IsTable (map_list cell_of l) after) (sym c.deref.ensures.value) read.cells_are

pub site_place-requires-clause-ready : goal.site_place-requires-clause-ready
site_place-requires-clause-ready g c =
    let p = program_of c.args.at.now.program.now in
    let row = slice_index c.args.at.now.rows.now in
    let r = c.args.at.now.row in
    let nets = c.args.nets.now in
    let old = wires_of c.args.wires.items in
    let ws = wires_of c.reads.new.wires.items in
    let before = c.args.table.items in
    let after = c.reads.new.table.items in
    let pointers = c.args.pointers.items in
    let those = c.reads.new.pointers.items in
    let made = c.args.cells.now.made.now in
    let read = c.in_ok-reads.ensures in
    subst (λ l. IsReady (map_list cell_of l) after made) (sym c.deref.ensures.value) (is_ready c.args.part p row r nets c.requires.staged old ws before after pointers those read made c.requires.ready)

pub site_place-requires-clause-carried : goal.site_place-requires-clause-carried
site_place-requires-clause-carried g c =
    let p = program_of c.args.at.now.program.now in
    let row = slice_index c.args.at.now.rows.now in
    let r = c.args.at.now.row in
    let nets = c.args.nets.now in
    let old = wires_of c.args.wires.items in
    let ws = wires_of c.reads.new.wires.items in
    let before = c.args.table.items in
    let after = c.reads.new.table.items in
    let pointers = c.args.pointers.items in
    let those = c.reads.new.pointers.items in
    let made = c.args.cells.now.made.now in
    let held = c.args.cells.now.held.now in
    let read = c.in_ok-reads.ensures in
    all_have c.args.part p row r nets c.requires.staged old ws before after pointers those read made held c.requires.held

pub site_place-requires-clause-some : goal.site_place-requires-clause-some
site_place-requires-clause-some g c =
    let held = c.args.cells.now.held.now in
    subst (λ l. All (λ k. 0 < width_at (map_list cell_of l) k) held) (sym c.deref.ensures.value) c.requires.some

pub site_place-requires-clause-pointers : goal.site_place-requires-clause-pointers
site_place-requires-clause-pointers g c =
    let nets = c.args.nets.now in
    let those = c.reads.new.pointers.items in
    let read = c.in_ok-reads.ensures in
    subst (λ l. IsPointers (map_list cell_of l) nets.bits those) (sym c.deref.ensures.value) read.pointers_are

pub site_place-requires-clause-pointed : goal.site_place-requires-clause-pointed
site_place-requires-clause-pointed g c =
    let p = program_of c.args.at.now.program.now in
    let row = slice_index c.args.at.now.rows.now in
    let r = c.args.at.now.row in
    let nets = c.args.nets.now in
    let old = wires_of c.args.wires.items in
    let ws = wires_of c.reads.new.wires.items in
    let before = c.args.table.items in
    let after = c.reads.new.table.items in
    let pointers = c.args.pointers.items in
    let those = c.reads.new.pointers.items in
    let made = c.args.cells.now.made.now in
    let made_pointers = c.args.cells.now.made_pointers.now in
    let read = c.in_ok-reads.ensures in
    subst (λ l. ArePointed (map_list cell_of l) after those made made_pointers) (sym c.deref.ensures.value) (are_pointed c.args.part p row r nets c.requires.staged old ws before after pointers those read made made_pointers c.requires.pointed)

pub site_place-requires-clause-carried_pointers : goal.site_place-requires-clause-carried_pointers
site_place-requires-clause-carried_pointers g c =
    let p = program_of c.args.at.now.program.now in
    let row = slice_index c.args.at.now.rows.now in
    let r = c.args.at.now.row in
    let nets = c.args.nets.now in
    let old = wires_of c.args.wires.items in
    let ws = wires_of c.reads.new.wires.items in
    let before = c.args.table.items in
    let after = c.reads.new.table.items in
    let pointers = c.args.pointers.items in
    let those = c.reads.new.pointers.items in
    let made_pointers = c.args.cells.now.made_pointers.now in
    let held_pointers = c.args.cells.now.held_pointers.now in
    let read = c.in_ok-reads.ensures in
    all_have_pointers c.args.part p row r nets c.requires.staged old ws before after pointers those read made_pointers held_pointers c.requires.held_pointers

pub returns-clause-block : goal.returns-clause-block
returns-clause-block g c = λ outside shown both hand.
    let p = program_of c.args.at.now.program.now in
    let row = slice_index c.args.at.now.rows.now in
    let r = c.args.at.now.row in
    let nets = c.args.nets.now in
    let old = wires_of c.args.wires.items in
    let ws = wires_of c.reads.new.wires.items in
    let before = c.args.table.items in
    let after = c.reads.new.table.items in
    let pointers = c.args.pointers.items in
    let those = c.reads.new.pointers.items in
    let made = c.args.cells.now.made.now in
    let held = c.args.cells.now.held.now in
    let made_pointers = c.args.cells.now.made_pointers.now in
    let held_pointers = c.args.cells.now.held_pointers.now in
    let read = c.in_ok-reads.ensures in
    let ready = read.there outside (alone (behind c.args.part outside old) nets hand) both in
    let placed =
    subst (λ l. IfOk c.site_place.result (λ b. IsSitePlace c.args.part (map_list cell_of l) made held made_pointers held_pointers nets.bits outside after those c.args.advance (block_of b))) c.deref.ensures.value
    (c.site_place.ensures.block outside shown ready.wires ready.cells ready.pointers) in
    ok_both _ _ _ c.site_place.result placed c.site_place.ensures.begun
    (λ b place begun.
    is_stage c.args.part p row r nets c.requires.staged old ws before after pointers those read c.pointers_are_held.ensures made held made_pointers held_pointers c.requires.pointed c.requires.of_row outside c.args.advance (block_of b) hand both begun place)

pub returns-clause-begun : goal.returns-clause-begun
returns-clause-begun g c = ok_both _ _ _ c.site_place.result c.site_place.ensures.begun c.site_place.ensures.begun (λ b begun again v solved. c.in_ok-reads.ensures.earlier v (begun v solved))

pub returns-clause-apart : goal.returns-clause-apart
returns-clause-apart g c = λ clean marks take early keep.
    let next = c.in_ok-reads.ensures.apart clean marks early keep in
    c.site_place.ensures.apart clean next.0 (subst (λ l. TakeClean clean (map_list cell_of l) c.args.cells.now.made.now) (sym c.deref.ensures.value) take) next.1
