use Rattle.std.proofs.Common.{◌∙◌, get_or, refl, sym, ap, subst, slice_index, arith}
use Rattle.std.proofs.lemmas.List.{length-map}
use Rattle.hazard_core.specs.cell_core.View.{program_of, site_of}
use Rattle.overlay_net.specs.cell_nets.Operands.{IsOperand}
use Rattle.overlay_net.specs.cell_nets.Wires.{wires_of, HasBits}
use Rattle.stage_net.proofs.OwnLemmas.{map_in, its_nets, cells_all, is_aligned, key_words, earlier_whole, earlier_fitting, earlier_few}
use Rattle.stage_net.proofs.GivenLemmas.{read_site_of, ok_site}
use Rattle.stage_net.proofs.reads.reads_of.Goals as goal

pub map_at-map-requires : goal.map_at-map-requires
map_at-map-requires g c =
    let p = program_of c.args.at.now.program.now in
    let row = slice_index c.args.at.now.rows.now in
    let nets = c.args.nets.now in
    let inside = map_in p row nets c.requires.staged c.requires.nets c.args.j (omega (arith, c.requires.site, length-map c.args.at.now.program.now.sites.items site_of)) in
    omega (arith, inside, c.site_at.ensures.map)

pub operand_at-word-requires : goal.operand_at-word-requires
operand_at-word-requires g c = omega (arith, c.requires.nets.word_count, c.requires.site, length-map c.args.at.now.program.now.sites.items site_of)

pub site_reads-requires-clause-map : goal.site_reads-requires-clause-map
site_reads-requires-clause-map g c =
    let p = program_of c.args.at.now.program.now in
    let row = slice_index c.args.at.now.rows.now in
    let nets = c.args.nets.now in
    let s = c.own_site-site.result in
    let ss = c.deref.result.now in
    let m = c.map_at-map.result.now in
    let x = read_site_of p row c.args.at.now.row nets s c.in_ok-earlier.earlier.items ss m c.operand_at-word.result c.args.j c.site_at.result.now.map c.own_site-site.ensures.own c.own_site-site.ensures.number c.in_ok-earlier.ensures.own c.in_ok-earlier.ensures.sites c.deref.ensures.value c.site_at.ensures.map c.map_at-map.ensures c.operand_at-word.ensures in
    (its_nets p row nets c.requires.staged c.requires.nets s.site x.own.site m x.map).is

pub site_reads-requires-clause-aligned : goal.site_reads-requires-clause-aligned
site_reads-requires-clause-aligned g c =
    let p = program_of c.args.at.now.program.now in
    let row = slice_index c.args.at.now.rows.now in
    let nets = c.args.nets.now in
    let s = c.own_site-site.result in
    let ss = c.deref.result.now in
    let m = c.map_at-map.result.now in
    let x = read_site_of p row c.args.at.now.row nets s c.in_ok-earlier.earlier.items ss m c.operand_at-word.result c.args.j c.site_at.result.now.map c.own_site-site.ensures.own c.own_site-site.ensures.number c.in_ok-earlier.ensures.own c.in_ok-earlier.ensures.sites c.deref.ensures.value c.site_at.ensures.map c.map_at-map.ensures c.operand_at-word.ensures in
    is_aligned p row nets c.requires.staged c.requires.nets s x.own

pub site_reads-requires-clause-operands : goal.site_reads-requires-clause-operands
site_reads-requires-clause-operands g c =
    let p = program_of c.args.at.now.program.now in
    let row = slice_index c.args.at.now.rows.now in
    let nets = c.args.nets.now in
    let s = c.own_site-site.result in
    let ss = c.deref.result.now in
    let m = c.map_at-map.result.now in
    let x = read_site_of p row c.args.at.now.row nets s c.in_ok-earlier.earlier.items ss m c.operand_at-word.result c.args.j c.site_at.result.now.map c.own_site-site.ensures.own c.own_site-site.ensures.number c.in_ok-earlier.ensures.own c.in_ok-earlier.ensures.sites c.deref.ensures.value c.site_at.ensures.map c.map_at-map.ensures c.operand_at-word.ensures in
    cells_all p row nets c.requires.staged c.requires.nets s x.own

pub site_reads-requires-clause-key : goal.site_reads-requires-clause-key
site_reads-requires-clause-key g c =
    let p = program_of c.args.at.now.program.now in
    let row = slice_index c.args.at.now.rows.now in
    let nets = c.args.nets.now in
    let s = c.own_site-site.result in
    let ss = c.deref.result.now in
    let m = c.map_at-map.result.now in
    let x = read_site_of p row c.args.at.now.row nets s c.in_ok-earlier.earlier.items ss m c.operand_at-word.result c.args.j c.site_at.result.now.map c.own_site-site.ensures.own c.own_site-site.ensures.number c.in_ok-earlier.ensures.own c.in_ok-earlier.ensures.sites c.deref.ensures.value c.site_at.ensures.map c.map_at-map.ensures c.operand_at-word.ensures in
    key_words p row nets c.requires.staged c.requires.nets s.site x.own.site m x.map s x.own refl

pub site_reads-requires-clause-earlier : goal.site_reads-requires-clause-earlier
site_reads-requires-clause-earlier g c =
    let p = program_of c.args.at.now.program.now in
    let row = slice_index c.args.at.now.rows.now in
    let nets = c.args.nets.now in
    let s = c.own_site-site.result in
    let ss = c.deref.result.now in
    let m = c.map_at-map.result.now in
    let x = read_site_of p row c.args.at.now.row nets s c.in_ok-earlier.earlier.items ss m c.operand_at-word.result c.args.j c.site_at.result.now.map c.own_site-site.ensures.own c.own_site-site.ensures.number c.in_ok-earlier.ensures.own c.in_ok-earlier.ensures.sites c.deref.ensures.value c.site_at.ensures.map c.map_at-map.ensures c.operand_at-word.ensures in
    earlier_whole p row nets c.requires.staged c.requires.nets c.args.at.now.row s x.own ss x.owns x.seen m x.map

pub site_reads-requires-clause-fitting : goal.site_reads-requires-clause-fitting
site_reads-requires-clause-fitting g c =
    let p = program_of c.args.at.now.program.now in
    let row = slice_index c.args.at.now.rows.now in
    let nets = c.args.nets.now in
    let s = c.own_site-site.result in
    let ss = c.deref.result.now in
    let m = c.map_at-map.result.now in
    let x = read_site_of p row c.args.at.now.row nets s c.in_ok-earlier.earlier.items ss m c.operand_at-word.result c.args.j c.site_at.result.now.map c.own_site-site.ensures.own c.own_site-site.ensures.number c.in_ok-earlier.ensures.own c.in_ok-earlier.ensures.sites c.deref.ensures.value c.site_at.ensures.map c.map_at-map.ensures c.operand_at-word.ensures in
    earlier_fitting p row nets c.requires.staged c.requires.nets c.args.at.now.row s x.own ss x.owns x.seen m x.map

pub site_reads-requires-clause-few : goal.site_reads-requires-clause-few
site_reads-requires-clause-few g c =
    let p = program_of c.args.at.now.program.now in
    let row = slice_index c.args.at.now.rows.now in
    let nets = c.args.nets.now in
    let s = c.own_site-site.result in
    let ss = c.deref.result.now in
    let m = c.map_at-map.result.now in
    let x = read_site_of p row c.args.at.now.row nets s c.in_ok-earlier.earlier.items ss m c.operand_at-word.result c.args.j c.site_at.result.now.map c.own_site-site.ensures.own c.own_site-site.ensures.number c.in_ok-earlier.ensures.own c.in_ok-earlier.ensures.sites c.deref.ensures.value c.site_at.ensures.map c.map_at-map.ensures c.operand_at-word.ensures in
    earlier_few p row nets c.requires.staged c.requires.nets c.args.at.now.row s x.own ss x.owns x.seen m x.map

pub site_reads-requires-clause-word : goal.site_reads-requires-clause-word
site_reads-requires-clause-word g c = subst IsOperand (sym c.operand_at-word.ensures) (c.requires.nets.words c.args.j c.operand_at-word.result (omega (arith, c.requires.nets.word_count, c.requires.site, length-map c.args.at.now.program.now.sites.items site_of)))

pub returns : goal.returns
returns g c =
    let p = program_of c.args.at.now.program.now in
    let row = slice_index c.args.at.now.rows.now in
    let nets = c.args.nets.now in
    let s = c.own_site-site.result in
    let ss = c.deref.result.now in
    let m = c.map_at-map.result.now in
    let x = read_site_of p row c.args.at.now.row nets s c.in_ok-earlier.earlier.items ss m c.operand_at-word.result c.args.j c.site_at.result.now.map c.own_site-site.ensures.own c.own_site-site.ensures.number c.in_ok-earlier.ensures.own c.in_ok-earlier.ensures.sites c.deref.ensures.value c.site_at.ensures.map c.map_at-map.ensures c.operand_at-word.ensures in
    ok_site c.args.part p row c.args.at.now.row nets c.requires.staged c.requires.nets c.requires.tables (wires_of c.args.wires.now.items) (wires_of c.site_reads.new.wires.items) s ss m c.operand_at-slot.result c.operand_at-word.result x c.args.slots.now c.requires.slots.count
    (c.operand_at-slot.ensures ∙ ap (λ i. get_or c.args.slots.now i c.operand_at-slot.result) (sym c.own_site-site.ensures.number)) c.args.j _ _ _ _ c.own_site-site.ensures.number c.first_bit-from.ensures.is c.width-width.ensures.is c.site_reads.result
    (λ t h is have entry. c.site_reads.ensures p t h row c.args.at.now.row is have entry)

pub operand_at-slot-requires : goal.operand_at-slot-requires
operand_at-slot-requires g c = omega (arith, c.requires.slots.count, c.requires.site, length-map c.args.at.now.program.now.sites.items site_of)

pub site_reads-requires-clause-slot : goal.site_reads-requires-clause-slot
site_reads-requires-clause-slot g c = subst IsOperand (sym c.operand_at-slot.ensures) (c.requires.slots.operands c.args.j c.operand_at-slot.result (omega (arith, c.requires.slots.count, c.requires.site, length-map c.args.at.now.program.now.sites.items site_of)))

pub site_reads-requires-clause-bits : goal.site_reads-requires-clause-bits
site_reads-requires-clause-bits g c =
    let p = program_of c.args.at.now.program.now in
    let row = slice_index c.args.at.now.rows.now in
    let nets = c.args.nets.now in
    let s = c.own_site-site.result in
    let ss = c.deref.result.now in
    let m = c.map_at-map.result.now in
    let x = read_site_of p row c.args.at.now.row nets s c.in_ok-earlier.earlier.items ss m c.operand_at-word.result c.args.j c.site_at.result.now.map c.own_site-site.ensures.own c.own_site-site.ensures.number c.in_ok-earlier.ensures.own c.in_ok-earlier.ensures.sites c.deref.ensures.value c.site_at.ensures.map c.map_at-map.ensures c.operand_at-word.ensures in
    subst (λ w. HasBits w c.operand_at-slot.result) (sym (its_nets p row nets c.requires.staged c.requires.nets s.site x.own.site m x.map).same)
    (subst (HasBits nets.bits) (sym c.operand_at-slot.ensures) (c.requires.slots.bits c.args.j c.operand_at-slot.result (omega (arith, c.requires.slots.count, c.requires.site, length-map c.args.at.now.program.now.sites.items site_of))))
