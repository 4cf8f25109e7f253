use Rattle.std.specs.Prelude.{Contains}
use Rattle.std.proofs.Common.{◌∙◌, ℕ, ◌<◌, List, length, get_or, refl, sym, ap, subst, arith}
use Rattle.block_core.specs.declared.name.Name.{Name}
use Rattle.hazard_core.specs.cell_core.Sites.{site_at}
use Rattle.read_net.specs.declared.sites.OwnSite.{OwnSite}
use Rattle.read_net.specs.Sites.{sites_of}
use Rattle.turn_net.specs.declared.target_net.targets.Target.{Target}
use Rattle.pipe_net.specs.declared.parts.Part.{Part}
use Rattle.pipe_parts.specs.PipeDraft.PipelinePlan.{program_in, plan_in}
use Rattle.pipe_parts.specs.TurnParts.Sites.{list_at}
use Rattle.pipe_parts.specs.TurnParts.Records.{IsTargetAt}
use Rattle.pipe_parts.proofs.TurnParts.Siting.{no_form, maps_there}
use Rattle.pipe_parts.proofs.TurnParts.Aiming.{list_is, list_read, targets_read, own_there, has_at, record_is}
use Rattle.pipe_parts.proofs.turn_parts.records.record_at.Goals as goal

pub target_at-requires-clause-count : goal.target_at-requires-clause-count
target_at-requires-clause-count c =
    let d = c.args.pipeline_plan.now in
    let lists = c.args.owns.now in
    let rs = c.args.targets.now in
    let m : ℕ = (site_at (program_in d).sites c.args.site).map in
    let there : m < length d.forms.items = maps_there d m (c.requires.pipeline_plan.ready.fits c.args.site c.requires.known).map in
    let own = list_read lists c.site_at-here.result.now.map m c.index-owns-map.result c.deref.result.now (omega (arith, there, c.requires.owns.count)) c.site_at-here.ensures.map c.index-owns-map.is c.deref.ensures.value in
    let outs = targets_read rs c.site_at-here.result.now.map m c.index-targets-map.result c.deref-2.result.now (omega (arith, there, c.requires.targets.count)) c.site_at-here.ensures.map c.deref-2.ensures.value in
    ap length outs ∙ (has_at d (list_at lists) rs c.requires.targets m no_form there).count ∙ ap length (sym own)

pub target_at-requires-clause-there : goal.target_at-requires-clause-there
target_at-requires-clause-there c =
    let d = c.args.pipeline_plan.now in
    let lists = c.args.owns.now in
    let r = c.index-owns-map.result in
    let m : ℕ = (site_at (program_in d).sites c.args.site).map in
    let there : m < length d.forms.items = maps_there d m (c.requires.pipeline_plan.ready.fits c.args.site c.requires.known).map in
    let within : m < length lists = omega (arith, there, c.requires.owns.count) in
    let own = list_read lists c.site_at-here.result.now.map m r c.deref.result.now within c.site_at-here.ensures.map c.index-owns-map.is c.deref.ensures.value in
    subst (λ (os : List (OwnSite (Name Part))). Contains (sites_of os) c.args.site) (sym (list_is lists m r within) ∙ sym own)
    (own_there d c.args.at.now m c.args.site (get_or lists m r).items (c.requires.owns.each m r there) c.requires.site refl)

pub returns-clause-record : goal.returns-clause-record
returns-clause-record c =
    let d = c.args.pipeline_plan.now in
    let lists = c.args.owns.now in
    let rs = c.args.targets.now in
    let m : ℕ = (site_at (program_in d).sites c.args.site).map in
    let there : m < length d.forms.items = maps_there d m (c.requires.pipeline_plan.ready.fits c.args.site c.requires.known).map in
    let own = list_read lists c.site_at-here.result.now.map m c.index-owns-map.result c.deref.result.now (omega (arith, there, c.requires.owns.count)) c.site_at-here.ensures.map c.index-owns-map.is c.deref.ensures.value in
    let outs = targets_read rs c.site_at-here.result.now.map m c.index-targets-map.result c.deref-2.result.now (omega (arith, there, c.requires.targets.count)) c.site_at-here.ensures.map c.deref-2.ensures.value in
    record_is d (list_at lists) rs c.requires.targets c.requires.pipeline_plan (plan_in d).commit c.args.at.now c.requires.at _ c.requires.known c.site_at-here.ensures.act c.decl_at.ensures c.index.ensures
    (subst (λ (ts : List (Target (Name Part))). IsTargetAt (list_at lists m) ts c.args.site c.target_at.result) outs (subst (λ (os : List (OwnSite (Name Part))). IsTargetAt os c.deref-2.result.now c.args.site c.target_at.result) own c.target_at.ensures))
