use Rattle.hazard_core.specs.cell_core.Cells.{no_cell}
use Rattle.overlay_net.specs.cell_nets.Wires.{wires_of}
use Rattle.stage_net.proofs.SiteLemmas.{no_packet, access_reads}
use Rattle.stage_net.proofs.reading.access_reads.Goals as goal

pub returns : goal.returns
returns g c = λ p t h row r is have entry.
    access_reads c.args.part (wires_of c.args.wires.now.items) (wires_of c.access.new.wires.items) c.args.map.now c.args.site.now c.args.earlier.now c.args.slot c.args.word c.args.from c.args.width p t h row r c.in_ok-answer.answer c.requires.number
    (c.in_ok-answer.ensures p t h row r no_packet no_cell is have (entry c.requires.number))
