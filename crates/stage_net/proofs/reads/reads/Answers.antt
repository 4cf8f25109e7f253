use Rattle.std.proofs.Common.{◌∙◌, All, length, slice_index, sym, ap, subst}
use Rattle.hazard_core.specs.cell_core.View.{program_of}
use Rattle.overlay_net.specs.cell_nets.Operands.{IsOperand}
use Rattle.overlay_net.specs.cell_nets.Wires.{wires_of, HasBits}
use Rattle.stage_net.specs.Rows.{AreSought}
use Rattle.stage_net.proofs.SearchLemmas.{read_sought}
use Rattle.stage_net.proofs.SiteLemmas.{ok_both}
use Rattle.stage_net.proofs.TableLemmas.{have_tables}
use Rattle.stage_net.proofs.reads.reads.Goals as goal

pub searches-requires-clause-tables : goal.searches-requires-clause-tables
searches-requires-clause-tables g c = have_tables c.args.nets.now.bits c.args.nets.now.maps.now c.loads_tables.ensures c.keeps_over.ensures c.requires.nets.maps

pub read_sites-requires-clause-tables : goal.read_sites-requires-clause-tables
read_sites-requires-clause-tables g c = have_tables c.args.nets.now.bits c.args.nets.now.maps.now c.loads_tables.ensures c.keeps_over.ensures c.requires.nets.maps

pub read_sites-requires-clause-slots : goal.read_sites-requires-clause-slots
read_sites-requires-clause-slots g c =
    let e = c.deref.ensures.value in
    let sought = c.in_ok-slots.ensures.sought in
    record { count = ap length e ∙ c.in_ok-slots.ensures.count; operands = subst (All IsOperand) (sym e) sought.operands; bits = subst (All (HasBits c.args.nets.now.bits)) (sym e) sought.bits }

pub returns : goal.returns
returns g c =
    let p = program_of c.args.at.now.program.now in
    let row = slice_index c.args.at.now.rows.now in
    let r = c.args.at.now.row in
    let nets = c.args.nets.now in
    let old = wires_of c.args.wires.now.items in
    let mid = wires_of c.searches.new.wires.items in
    ok_both _ _ _ c.read_sites.result c.read_sites.ensures c.read_sites.ensures
    (λ done read again.
    read_sought c.args.part p row r nets old mid (wires_of c.read_sites.new.wires.items) c.deref.result.now (length p.sites) c.args.table.now.items c.read_sites.new.table.items c.args.pointers.now.items c.read_sites.new.pointers.items
    (subst (AreSought c.args.part p row r nets old mid) (sym c.deref.ensures.value) c.in_ok-slots.ensures.sought) read)
