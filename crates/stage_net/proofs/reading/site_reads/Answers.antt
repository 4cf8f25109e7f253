use Rattle.std.proofs.Common.{ap}
use Rattle.hazard_core.specs.cell_core.Acts.{finds_key}
use Rattle.hazard_core.specs.cell_core.Cells.{no_cell}
use Rattle.overlay_net.specs.cell_nets.Wires.{wires_of}
use Rattle.stage_net.proofs.SiteLemmas.{no_packet, ok_both, key_reads}
use Rattle.stage_net.proofs.reading.site_reads.Goals as goal

pub returns-in-Lookup : goal.returns-in-Lookup
returns-in-Lookup g c = λ p t h row r is have entry.
    ok_both _ _ _ c.lookup.result c.lookup.ensures.cells (c.lookup.ensures.reads p t h row r no_packet no_cell is) (λ o cells. key_reads c.args.part (wires_of c.args.wires.now.items) (wires_of c.lookup.new.wires.items) c.args.map.now c.args.site.now c.args.earlier.now c.args.slot c.args.word c.args.from c.args.width p t h row r no_packet o cells (ap finds_key c.in-Lookup.is))

pub returns-in-Update : goal.returns-in-Update
returns-in-Update g c = λ p t h row r is have entry.
    ok_both _ _ _ c.update.result c.update.ensures.cells (c.update.ensures.reads p t h row r no_packet no_cell is) (λ o cells. key_reads c.args.part (wires_of c.args.wires.now.items) (wires_of c.update.new.wires.items) c.args.map.now c.args.site.now c.args.earlier.now c.args.slot c.args.word c.args.from c.args.width p t h row r no_packet o cells (ap finds_key c.in-Update.is))

pub returns-in-Delete : goal.returns-in-Delete
returns-in-Delete g c = λ p t h row r is have entry.
    ok_both _ _ _ c.delete.result c.delete.ensures.cells (c.delete.ensures.reads p t h row r no_packet no_cell is) (λ o cells. key_reads c.args.part (wires_of c.args.wires.now.items) (wires_of c.delete.new.wires.items) c.args.map.now c.args.site.now c.args.earlier.now c.args.slot c.args.word c.args.from c.args.width p t h row r no_packet o cells (ap finds_key c.in-Delete.is))
