use Rattle.std.specs.Prelude.{IfSome}
use Rattle.std.proofs.Common.{◌∙◌, ◌<◌, refl, ap, sym, subst, get_or, length, slice_index, arith}
use Rattle.std.proofs.lemmas.List.{length-map}
use Rattle.hazard_core.specs.cell_core.Sites.{site_at}
use Rattle.hazard_core.specs.cell_core.View.{program_of, site_of}
use Rattle.overlay_net.specs.cell_nets.declared.operand.Operand.TheVariants.{Known}
use Rattle.overlay_net.specs.cell_nets.Wires.{wires_of}
use Rattle.stage_net.specs.Nets.{decls_of}
use Rattle.stage_net.specs.Rows.{IsSought, AsksSame}
use Rattle.stage_net.proofs.OwnLemmas.{map_in, its_nets, cells_all, key_words}
use Rattle.stage_net.proofs.SearchLemmas.{sought_more, not_sought, same_sought, ok_searched}
use Rattle.stage_net.proofs.searching.search.Goals as goal

pub map_at-map-requires : goal.map_at-map-requires
map_at-map-requires g c =
    let p = program_of c.args.at.now.program.now in
    let row = slice_index c.args.at.now.rows.now in
    let nets = c.args.nets.now in
    let inside = map_in p row nets c.requires.staged c.requires.nets c.args.j (omega (arith, c.requires.site, length-map c.args.at.now.program.now.sites.items site_of)) in
    omega (arith, inside, c.site_at.ensures.map)

pub slot_under-requires-clause-map : goal.slot_under-requires-clause-map
slot_under-requires-clause-map g c =
    let p = program_of c.args.at.now.program.now in
    let row = slice_index c.args.at.now.rows.now in
    let nets = c.args.nets.now in
    let s = c.own_site-site.result in
    let m = c.map_at-map.result.now in
    (its_nets p row nets c.requires.staged c.requires.nets s.site c.own_site-site.ensures.own.site m (c.map_at-map.ensures ∙ ap (λ k. get_or nets.maps.now k m) (c.site_at.ensures.map ∙ ap (λ i. (site_at p.sites i).map) (sym c.own_site-site.ensures.number)))).is

pub slot_under-requires-clause-operands : goal.slot_under-requires-clause-operands
slot_under-requires-clause-operands g c =
    cells_all (program_of c.args.at.now.program.now) (slice_index c.args.at.now.rows.now) c.args.nets.now c.requires.staged c.requires.nets c.own_site-site.result c.own_site-site.ensures.own

pub slot_under-requires-clause-key : goal.slot_under-requires-clause-key
slot_under-requires-clause-key g c =
    let p = program_of c.args.at.now.program.now in
    let row = slice_index c.args.at.now.rows.now in
    let nets = c.args.nets.now in
    let s = c.own_site-site.result in
    let m = c.map_at-map.result.now in
    let own = c.own_site-site.ensures.own in
    key_words p row nets c.requires.staged c.requires.nets s.site own.site m (c.map_at-map.ensures ∙ ap (λ k. get_or nets.maps.now k m) (c.site_at.ensures.map ∙ ap (λ i. (site_at p.sites i).map) (sym c.own_site-site.ensures.number))) s own refl

pub returns-then-not-is_sought : goal.returns-then-not-is_sought
returns-then-not-is_sought g c = λ base sought.
    let p = program_of c.args.at.now.program.now in
    let row = slice_index c.args.at.now.rows.now in
    let r = c.args.at.now.row in
    let nets = c.args.nets.now in
    let ws = wires_of c.args.wires.now.items in
    let slots = c.args.slots.now in
    let none : IsSought p row r (length slots) → ⊥ = λ h. (let one = c.is_sought.ensures.all (decls_of nets.maps.now) nets.bits c.requires.staged (subst (IsSought p row r) c.requires.count h) in let zero = c.if-not-is_sought.true in let z = sym one ∙ zero in cc) in
    sought_more c.args.part p row r nets base ws slots sought ws (Known 0) (not_sought c.args.part p row r nets base ws slots sought (length slots) none)

pub returns-in-Some : goal.returns-in-Some
returns-in-Some g c = λ base sought.
    let p = program_of c.args.at.now.program.now in
    let row = slice_index c.args.at.now.rows.now in
    let r = c.args.at.now.row in
    let nets = c.args.nets.now in
    let ws = wires_of c.args.wires.now.items in
    let slots = c.args.slots.now in
    let i = c.in-Some.i in
    let slot = c.operand_at.result in
    let before : i < c.args.j = subst (λ o. IfSome o (λ k. k < c.args.j)) c.in-Some.is c.same_search.ensures.before in
    let same : AsksSame p row r i c.args.j = subst (λ o. IfSome o (λ k. AsksSame p row r k c.args.j)) c.in-Some.is c.same_search.ensures.same in
    sought_more c.args.part p row r nets base ws slots sought ws slot (same_sought c.args.part p row r nets base ws slots sought i (length slots) slot (omega (arith, before, c.requires.count)) c.operand_at.ensures (subst (AsksSame p row r i) (sym c.requires.count) same))

pub returns : goal.returns
returns g c = λ base sought.
    let p = program_of c.args.at.now.program.now in
    let row = slice_index c.args.at.now.rows.now in
    let r = c.args.at.now.row in
    let nets = c.args.nets.now in
    let s = c.own_site-site.result in
    let m = c.map_at-map.result.now in
    let is = c.map_at-map.ensures ∙ ap (λ k. get_or nets.maps.now k m) (c.site_at.ensures.map ∙ ap (λ i. (site_at p.sites i).map) (sym c.own_site-site.ensures.number)) in
    ok_searched c.args.part p row r nets base (wires_of c.args.wires.now.items) (wires_of c.slot_under.new.wires.items) c.args.slots.now sought c.requires.staged c.requires.nets c.requires.tables s c.own_site-site.ensures.own m is (c.own_site-site.ensures.number ∙ sym c.requires.count) c.slot_under.result c.slot_under.ensures.operand
    c.slot_under.ensures.bits (λ t h of. c.slot_under.ensures.gives p t h s.site of)
