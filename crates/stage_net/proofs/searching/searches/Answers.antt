use Rattle.std.proofs.Common.{◌∙◌, ◌++◌, ◌∷◌, [], length, length-append, slice_index, sym, ap, subst, arith}
use Rattle.std.proofs.lemmas.List.{length-map}
use Rattle.hazard_core.specs.cell_core.View.{program_of, site_of}
use Rattle.overlay_net.specs.cell_nets.Wires.{wires_of}
use Rattle.stage_net.specs.Rows.{AreSought}
use Rattle.stage_net.proofs.SearchLemmas.{none_sought}
use Rattle.stage_net.proofs.searching.searches.Goals as goal

pub loop-j-init : goal.loop-j-init
loop-j-init g c =
    let p = program_of c.args.at.now.program.now in
    let row = slice_index c.args.at.now.rows.now in
    let r = c.args.at.now.row in
    let nets = c.args.nets.now in
    let base = wires_of c.args.wires.now.items in
    let e = c.new-slots.ensures.items in
    (ap length e, subst (AreSought c.args.part p row r nets base base) (sym e) (none_sought c.args.part p row r nets base))

pub loop-j-preserved : goal.loop-j-preserved
loop-j-preserved g c =
    let l = c.loop-j in
    let p = program_of c.args.at.now.program.now in
    let row = slice_index c.args.at.now.rows.now in
    let base = wires_of c.args.wires.now.items in
    let now = wires_of c.search.new.wires.items in
    let Sought = AreSought c.args.part p row c.args.at.now.row c.args.nets.now base in
    let more = c.in_ok-slot.ensures base (subst (Sought (wires_of l.wires.items)) (sym c.deref.ensures.value) l.invariant.1) in
    let e = c.in_ok-push.ensures.items in (
      ap length e ∙ omega (arith, length-append l.slots.items (c.in_ok-slot.slot ∷ []), l.invariant.0),
      subst (Sought now) (sym e) (subst (λ xs. Sought now (xs ++ c.in_ok-slot.slot ∷ [])) c.deref.ensures.value more),
    )

pub returns-clause-count : goal.returns-clause-count
returns-clause-count g c = omega (arith, c.loop-j.invariant.0, c.loop-j-test.false, c.loop-j.auto.j-end, c.len-j-end.ensures, length-map c.args.at.now.program.now.sites.items site_of)

pub returns-clause-sought : goal.returns-clause-sought
returns-clause-sought g c = c.loop-j.invariant.1
