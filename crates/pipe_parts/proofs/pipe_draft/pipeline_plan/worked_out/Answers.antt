use Rattle.std.proofs.Common.{◌≡◌, ◌∙◌, ◌<◌, ◌≤◌, All, length, map, get_or, refl, sym, ap, subst, arith}
use Rattle.std.proofs.lemmas.List.{length-map}
use Rattle.hazard_core.proofs.xdp_maps_laws.LimitLaws.{cap_few}
use Rattle.hazard_core.specs.cell_core.View.{cell_of, site_of, program_of}
use Rattle.pipe_net.specs.Parts.{IsSmall}
use Rattle.row_net.specs.Table.{AreConstants}
use Rattle.stage_net.specs.SiteTable.Bits.{FitPointers}
use Rattle.stage_net.specs.SiteTable.Pointing.{AreFlagged, plain_of}
use Rattle.pipe_parts.specs.PipeDraft.Program.{IsForPipe}
use Rattle.pipe_parts.specs.PipeDraft.Sources.{source_list, AreKeptFor}
use Rattle.pipe_net.specs.PipePlaces.Layout.{load_sites}
use Rattle.pipe_parts.specs.PipeDraft.PipelinePlan.{sizes_of}
use Rattle.pipe_parts.proofs.PipeDraft.Sourcing.{sources_within}
use Rattle.pipe_parts.proofs.PipeDraft.PipelinePlanning.{few_loads, are_small}
use Rattle.pipe_parts.proofs.pipe_draft.pipeline_plan.worked_out.Goals as goal

pub kept_words-requires-clause-within : goal.kept_words-requires-clause-within
kept_words-requires-clause-within c =
    let program = c.args.program.now in
    let p = program_of program in
    let within = sources_within p c.deref.result.now c.requires.program.formed c.in_ok-sources.sources.items c.in_ok-sources.ensures in
    let same = c.deref-3.ensures.value in
    subst (All (λ k. k < length c.deref-2.result.now)) (sym same) (λ i e lt. omega (arith, within i e lt, ap length c.deref-2.ensures.value, length-map program.cells.items cell_of))

pub pointer_bits-bits-requires-clause-caps : goal.pointer_bits-bits-requires-clause-caps
pointer_bits-bits-requires-clause-caps c = λ i e lt. cap_few (get_or c.args.decls.now i e) (c.requires.program.limits i e lt)

pub sizes-sizes-requires-clause-loads : goal.sizes-sizes-requires-clause-loads
sizes-sizes-requires-clause-loads c =
    let program = c.args.program.now in
    let few = few_loads (program_of program) c.in_ok-loads.loads.items c.in_ok-loads.ensures in
    omega (arith, few, c.len-2.ensures, length-map program.sites.items site_of, c.requires.few)

pub returns : goal.returns
returns c =
    let program = c.args.program.now in
    let p = program_of program in
    let plan = c.args.plan.now in
    let decls = c.args.decls.now in
    let ready = c.requires.program in
    let needed = c.in_ok-needed.needed.items in
    let sources = c.in_ok-sources.sources.items in
    let few : length p.sites ≤ 65536 = omega (arith, length-map program.sites.items site_of, c.requires.few) in
    let many : c.len.result ≡ length p.sites = omega (arith, c.len.ensures, length-map program.sites.items site_of) in
    let same = c.in_ok-forms.ensures.decls in
    let loads : c.len-2.result ≡ length (load_sites p) = omega (arith, c.len-2.ensures, ap length c.in_ok-loads.ensures) in
    let sizes : c.sizes-sizes.result ≡ sizes_of p plan decls = c.sizes-sizes.ensures ∙ ap (λ n. record { commit = plan.commit; last = plan.last; maps = length decls; loads = n }) loads in
    let shown : AreKeptFor p.cells sources c.in_ok-kept.kept.items =
    subst (λ cs. AreKeptFor cs sources c.in_ok-kept.kept.items) (ap (map cell_of) c.deref-2.ensures.value) (subst (λ ks. AreKeptFor (map cell_of c.deref-2.result.now) ks c.in_ok-kept.kept.items) c.deref-3.ensures.value c.in_ok-kept.ensures) in
    record {
      program_is = refl;
      plan_is = refl;
      decls_are = same;
      is = record {
        ready = subst (IsForPipe p plan) (sym same) ready;
        few_sites = few;
        early = c.requires.early;
        sizes = sizes ∙ ap (sizes_of p plan) (sym same);
        small = subst IsSmall (sym sizes) (are_small p plan decls ready few);
        rows = c.in_ok-rows.ensures;
        forms = c.in_ok-forms.ensures.forms;
        needed = c.in_ok-needed.ensures;
        parts = c.in_ok-parts.ensures;
        points = subst (λ cs. AreFlagged cs c.in_ok-points.points.items) (ap (map cell_of) c.deref-4.ensures.value) c.in_ok-points.ensures;
        bits = subst (λ ds. FitPointers ds (length p.sites) c.pointer_bits-bits.result) (sym same)
            (subst (λ n. FitPointers decls n c.pointer_bits-bits.result) many c.pointer_bits-bits.ensures);
        sources = c.in_ok-sources.ensures ∙ ap (source_list p) c.deref.ensures.value;
        kept = shown;
        constants = subst (λ cs. AreConstants cs c.in_ok-constants.constants.items) (ap (map cell_of) c.deref-6.ensures.value) c.in_ok-constants.ensures;
        plain = c.in_ok-plain.ensures ∙ ap (map plain_of) c.deref-5.ensures.value;
        loads = c.in_ok-loads.ensures;
        records = c.in_ok-records.ensures;
      };
    }
