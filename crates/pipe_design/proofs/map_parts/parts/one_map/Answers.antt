use Rattle.std.proofs.Common.{◌≡◌, ◌∙◌, All, List, get_or, sym, ap, subst, arith}
use Rattle.std.proofs.lemmas.List.{get_or_default}
use Rattle.block_core.specs.declared.name.Name.{Name}
use Rattle.overlay_net.specs.declared.site_operands.SiteNets.{SiteNets}
use Rattle.commit_net.specs.declared.choosing.CommitNets.{CommitNets}
use Rattle.commit_net.specs.Choosing.{HasOperands}
use Rattle.commit_net.specs.Words.{IsFitting}
use Rattle.commit_net.specs.declared.map_block.form.MapForm.{MapForm}
use Rattle.commit_net.specs.MapBlock.Forms.{FormFits}
use Rattle.pipe_net.specs.declared.parts.Part.{Part}
use Rattle.pipe_parts.specs.PipeDraft.PipelinePlan.{program_in}
use Rattle.pipe_design.specs.MapParts.Operations.{AreOperations}
use Rattle.pipe_design.specs.MapParts.Parts.{ArePartsOver, IsChangeOver}
use Rattle.pipe_design.proofs.MapParts.Forming.{form_fits, within}
use Rattle.pipe_design.proofs.MapParts.Operating.{have_operands, fit_map}
use Rattle.pipe_design.proofs.map_parts.parts.one_map.Goals as goal

pub parts_of_map-requires-clause-form_fits : goal.parts_of_map-requires-clause-form_fits
parts_of_map-requires-clause-form_fits c = subst FormFits (sym c.index-form.ensures) (form_fits c.args.pipeline_plan.now c.requires.pipeline_plan c.args.m c.requires.known c.index-form.result.now)

pub parts_of_map-requires-clause-operands : goal.parts_of_map-requires-clause-operands
parts_of_map-requires-clause-operands c =
    let a = c.args in
    let all = c.in_ok-operations.operations.items in
    let are : AreOperations (program_in a.pipeline_plan.now) a.at.now.sites.items a.chosen.now a.on.now.targets.now a.m all =
    subst (λ (s : List (SiteNets (Name Part))). AreOperations (program_in a.pipeline_plan.now) s a.chosen.now a.on.now.targets.now a.m all) c.deref.ensures.value c.in_ok-operations.ensures in
    subst (All HasOperands) (sym c.deref-2.ensures.value) (have_operands a.pipeline_plan.now c.requires.pipeline_plan a.at.now c.requires.at a.chosen.now a.on.now.targets.now a.m all are c.requires.chosen c.requires.targets)

pub parts_of_map-requires-clause-fitting : goal.parts_of_map-requires-clause-fitting
parts_of_map-requires-clause-fitting c =
    let a = c.args in
    let all = c.in_ok-operations.operations.items in
    let are : AreOperations (program_in a.pipeline_plan.now) a.at.now.sites.items a.chosen.now a.on.now.targets.now a.m all =
    subst (λ (s : List (SiteNets (Name Part))). AreOperations (program_in a.pipeline_plan.now) s a.chosen.now a.on.now.targets.now a.m all) c.deref.ensures.value c.in_ok-operations.ensures in
    subst (All (IsFitting c.index-form.result.now.decl)) (sym c.deref-2.ensures.value)
    (subst (λ (f : MapForm). All (IsFitting f.decl) all) (sym c.index-form.ensures) (fit_map a.pipeline_plan.now c.requires.pipeline_plan a.at.now c.requires.at a.chosen.now a.on.now.targets.now a.m all are c.requires.known c.index-form.result.now))

pub change_of_map-requires-clause-map : goal.change_of_map-requires-clause-map
change_of_map-requires-clause-map c = omega (arith, within c.args.pipeline_plan.now c.requires.pipeline_plan c.args.m c.requires.known c.index-form.result.now, ap (λ (f : MapForm). f.number) c.index-form.ensures)

pub change_of_map-requires-clause-form_fits : goal.change_of_map-requires-clause-form_fits
change_of_map-requires-clause-form_fits c = subst FormFits (sym c.index-form.ensures) (form_fits c.args.pipeline_plan.now c.requires.pipeline_plan c.args.m c.requires.known c.index-form.result.now)

pub change_of_map-requires-clause-operands : goal.change_of_map-requires-clause-operands
change_of_map-requires-clause-operands c =
    let a = c.args in
    let all = c.in_ok-operations.operations.items in
    let are : AreOperations (program_in a.pipeline_plan.now) a.at.now.sites.items a.chosen.now a.on.now.targets.now a.m all =
    subst (λ (s : List (SiteNets (Name Part))). AreOperations (program_in a.pipeline_plan.now) s a.chosen.now a.on.now.targets.now a.m all) c.deref.ensures.value c.in_ok-operations.ensures in
    subst (All HasOperands) (sym c.deref-3.ensures.value) (have_operands a.pipeline_plan.now c.requires.pipeline_plan a.at.now c.requires.at a.chosen.now a.on.now.targets.now a.m all are c.requires.chosen c.requires.targets)

pub returns : goal.returns
returns c =
    let a = c.args in
    let d = a.pipeline_plan.now in
    let form = c.index-form.result.now in
    let all = c.in_ok-operations.operations.items in
    let x = c.in_ok-parts.parts in
    let y = c.in_ok-change.change in
    let same : (f : MapForm) → form ≡ get_or d.forms.items a.m f = λ f. c.index-form.ensures ∙ get_or_default d.forms.items a.m form f c.requires.known in
    record {
      operations = all;
      are = subst (λ (s : List (SiteNets (Name Part))). AreOperations (program_in d) s a.chosen.now a.on.now.targets.now a.m all) c.deref.ensures.value c.in_ok-operations.ensures;
      parts = λ f. subst (λ (g : MapForm). ArePartsOver d.sizes g a.on.now.commits all x) (same f) (subst (λ (ns : List (CommitNets (Name Part))). ArePartsOver d.sizes form a.on.now.commits ns x) c.deref-2.ensures.value c.in_ok-parts.ensures.parts);
      change = λ f. subst (λ (g : MapForm). IsChangeOver d.sizes g a.on.now.commits all x y) (same f) (subst (λ (ns : List (CommitNets (Name Part))). IsChangeOver d.sizes form a.on.now.commits ns x y) c.deref-3.ensures.value c.in_ok-change.ensures);
    }
