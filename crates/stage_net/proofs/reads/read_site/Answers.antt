use Rattle.std.proofs.Common.{slice_index, subst}
use Rattle.hazard_core.specs.cell_core.Cells.{cell_at}
use Rattle.hazard_core.specs.cell_core.View.{program_of}
use Rattle.overlay_net.specs.cell_nets.Wires.{wires_of}
use Rattle.stage_net.specs.Rows.{IsSiteRead}
use Rattle.stage_net.proofs.StepLemmas.{hit_of, no_hit, not_read, site_is_read_as}
use Rattle.stage_net.proofs.reads.read_site.Goals as goal

pub returns-in_ok-read : goal.returns-in_ok-read
returns-in_ok-read g c =
    let p = program_of c.args.at.now.program.now in
    let row = slice_index c.args.at.now.rows.now in
    let r = c.args.at.now.row in
    let nets = c.args.nets.now in
    let j = c.args.j in
    let old = wires_of c.args.wires.now.items in
    let new = wires_of c.reads_of.new.wires.items in
    let found = c.found_cell-found.result in
    let answer = c.answer_cell-answer.result in
    let read = subst (λ k. IsSiteRead c.args.part p row r nets c.args.slots.now j (cell_at p.cells k).from (cell_at p.cells k).width old new c.in_ok-read.read) c.answer_cell-answer.ensures c.in_ok-read.ensures in
    let hit = hit_of p row j found answer r c.is_read.result c.found_cell-found.ensures c.answer_cell-answer.ensures c.is_read.ensures c.if-is_read.true in
    site_is_read_as c.args.part p row r nets c.requires.staged c.requires.keep c.args.slots.now j old new c.in_ok-read.read read c.args.table.now.items c.args.pointers.now.items c.requires.table c.requires.pointers hit found answer c.put.new.table.items c.put-then-is_read.new.table.items c.put-then-is_read-2.new.table.items c.found_cell-found.ensures
    c.answer_cell-answer.ensures c.put.ensures c.put-then-is_read.ensures c.put-then-is_read-2.ensures

pub returns-else-is_read : goal.returns-else-is_read
returns-else-is_read g c =
    let p = program_of c.args.at.now.program.now in
    let row = slice_index c.args.at.now.rows.now in
    let r = c.args.at.now.row in
    not_read c.args.part p row r c.args.nets.now c.requires.staged c.requires.keep c.args.slots.now c.args.j (wires_of c.args.wires.now.items) c.args.table.now.items c.args.pointers.now.items c.requires.table c.requires.pointers
    (no_hit p row c.args.j c.found_cell-found.result c.answer_cell-answer.result r c.is_read.result c.found_cell-found.ensures c.answer_cell-answer.ensures c.is_read.ensures c.if-is_read.false)
