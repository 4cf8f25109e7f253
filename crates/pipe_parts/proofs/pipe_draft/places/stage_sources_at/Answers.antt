use Rattle.std.proofs.Common.{◌≡◌, ◌∙◌, ◌<◌, All, List, length, map, sym, ap, subst, arith}
use Rattle.std.proofs.lemmas.List.{length-map}
use Rattle.hazard_core.specs.cell_core.Cells.{CellView}
use Rattle.hazard_core.specs.cell_core.View.{cell_of}
use Rattle.row_net.specs.PlaceNet.Place.{width_at}
use Rattle.row_net.specs.SitePlace.Pointing.{IsPointers}
use Rattle.stage_net.specs.SiteTable.Lists.{held_cells, held_pointers}
use Rattle.stage_net.specs.SiteTable.Staged.{AreLists}
use Rattle.stage_net.specs.SiteTable.Pointing.{plain_of}
use Rattle.stage_net.proofs.SiteTable.TableLaws.{plain_are}
use Rattle.pipe_net.specs.Parts as part
use Rattle.pipe_parts.specs.PipeDraft.PipelinePlan.{program_in, plan_in}
use Rattle.pipe_parts.proofs.PipeDraft.Behinds.{behind_as}
use Rattle.pipe_parts.proofs.pipe_draft.places.stage_sources_at.Goals as goal

pub behind-requires-clause-within : goal.behind-requires-clause-within
behind-requires-clause-within c =
    let d = c.args.pipeline_plan.now in
    let p = program_in d in
    let k = c.args.k in
    let is : c.deref-7.result.now ≡ held_cells p (plan_in d) d.needed.items d.parts.items k =
    c.deref-7.ensures.value ∙ c.in_ok-held.ensures ∙ ap (λ ns. held_cells p (plan_in d) ns c.deref-2.result.now k) c.deref.ensures.value ∙ ap (λ ps. held_cells p (plan_in d) d.needed.items ps k) c.deref-2.ensures.value in
    let lists : AreLists p (plan_in d) d.needed.items d.parts.items d.points.items = c.stages_are_placed.ensures.lists p (plan_in d) d.needed.items d.parts.items d.points.items in
    subst (All (λ n. n < length c.deref-6.result.now)) (sym is) (λ i e lt. omega (arith, (lists.held k i e lt).within, ap length c.deref-6.ensures.value, length-map d.program.now.cells.items cell_of))

pub behind-requires-clause-some : goal.behind-requires-clause-some
behind-requires-clause-some c =
    let d = c.args.pipeline_plan.now in
    let p = program_in d in
    let k = c.args.k in
    let is : c.deref-7.result.now ≡ held_cells p (plan_in d) d.needed.items d.parts.items k =
    c.deref-7.ensures.value ∙ c.in_ok-held.ensures ∙ ap (λ ns. held_cells p (plan_in d) ns c.deref-2.result.now k) c.deref.ensures.value ∙ ap (λ ps. held_cells p (plan_in d) d.needed.items ps k) c.deref-2.ensures.value in
    let lists : AreLists p (plan_in d) d.needed.items d.parts.items d.points.items = c.stages_are_placed.ensures.lists p (plan_in d) d.needed.items d.parts.items d.points.items in
    let cells : map cell_of c.deref-6.result.now ≡ p.cells = ap (map cell_of) c.deref-6.ensures.value in
    subst (λ (cs : List CellView). All (λ n. 0 < width_at cs n) c.deref-7.result.now) (sym cells) (subst (All (λ n. 0 < width_at p.cells n)) (sym is) (lists.wide k))

pub behind-requires-clause-pointers : goal.behind-requires-clause-pointers
behind-requires-clause-pointers c =
    let d = c.args.pipeline_plan.now in
    let p = program_in d in
    let k = c.args.k in
    let is : c.deref-8.result.now ≡ held_pointers p (plan_in d) d.needed.items d.parts.items d.points.items k =
    c.deref-8.ensures.value ∙ c.in_ok-pointers.ensures ∙ ap (λ ns. held_pointers p (plan_in d) ns c.deref-4.result.now c.deref-5.result.now k) c.deref-3.ensures.value
    ∙ ap (λ ps. held_pointers p (plan_in d) d.needed.items ps c.deref-5.result.now k) c.deref-4.ensures.value ∙ ap (λ fs. held_pointers p (plan_in d) d.needed.items d.parts.items fs k) c.deref-5.ensures.value in
    let lists : AreLists p (plan_in d) d.needed.items d.parts.items d.points.items = c.stages_are_placed.ensures.lists p (plan_in d) d.needed.items d.parts.items d.points.items in
    subst (All (λ n. n < length c.deref-6.result.now)) (sym is) (λ i e lt. omega (arith, (lists.pointers_held k i e lt).within, ap length c.deref-6.ensures.value, length-map d.program.now.cells.items cell_of))

pub behind-requires-clause-plain : goal.behind-requires-clause-plain
behind-requires-clause-plain c =
    let d = c.args.pipeline_plan.now in
    let p = program_in d in
    let cells : map cell_of c.deref-6.result.now ≡ p.cells = ap (map cell_of) c.deref-6.ensures.value in
    let plain : c.deref-10.result.now ≡ map plain_of d.points.items = c.deref-10.ensures.value ∙ c.requires.pipeline_plan.plain in
    subst (λ (cs : List CellView). IsPointers cs d.bits c.deref-10.result.now) (sym cells) (subst (IsPointers p.cells d.bits) (sym plain) (plain_are p.cells d.points.items d.bits c.requires.pipeline_plan.points.pointing.count))

pub returns : goal.returns
returns c =
    let d = c.args.pipeline_plan.now in
    let p = program_in d in
    let k = c.args.k in
    let held : c.deref-7.result.now ≡ held_cells p (plan_in d) d.needed.items d.parts.items k =
    c.deref-7.ensures.value ∙ c.in_ok-held.ensures ∙ ap (λ ns. held_cells p (plan_in d) ns c.deref-2.result.now k) c.deref.ensures.value ∙ ap (λ ps. held_cells p (plan_in d) d.needed.items ps k) c.deref-2.ensures.value in
    let pointers : c.deref-8.result.now ≡ held_pointers p (plan_in d) d.needed.items d.parts.items d.points.items k =
    c.deref-8.ensures.value ∙ c.in_ok-pointers.ensures ∙ ap (λ ns. held_pointers p (plan_in d) ns c.deref-4.result.now c.deref-5.result.now k) c.deref-3.ensures.value
    ∙ ap (λ ps. held_pointers p (plan_in d) d.needed.items ps c.deref-5.result.now k) c.deref-4.ensures.value ∙ ap (λ fs. held_pointers p (plan_in d) d.needed.items d.parts.items fs k) c.deref-5.ensures.value in
    let cells : map cell_of c.deref-6.result.now ≡ p.cells = ap (map cell_of) c.deref-6.ensures.value in
    let plain : c.deref-10.result.now ≡ map plain_of d.points.items = c.deref-10.ensures.value ∙ c.requires.pipeline_plan.plain in
    record {
      tables = record {
        constants = d.constants.items;
        are_constants = c.requires.pipeline_plan.constants;
        behind =
            behind_as c.place.result (part.place d.sizes k) (map cell_of c.deref-6.result.now) p.cells d.bits c.deref-7.result.now (held_cells p (plan_in d) d.needed.items d.parts.items k) c.deref-8.result.now
            (held_pointers p (plan_in d) d.needed.items d.parts.items d.points.items k) c.deref-9.result.now d.constants.items c.deref-10.result.now (map plain_of d.points.items) c.in_ok-tables.tables c.place.ensures cells held pointers c.deref-9.ensures.value plain
            c.in_ok-tables.ensures;
      };
      sites = c.in_ok-sites.ensures;
    }
