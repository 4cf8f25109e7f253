use Rattle.std.proofs.Common.{◌≡◌, ◌∙◌, ◌+◌, ◌<◌, List, [], ◌∷◌, ◌++◌, length, sym, subst, arith}
use Rattle.block_core.specs.declared.name.Name.{Name}
use Rattle.commit_net.specs.declared.change_net.change.ChangePart.{ChangePart}
use Rattle.pipe_net.specs.declared.parts.Part.{Part}
use Rattle.pipe_parts.specs.PipeDraft.PipelinePlan.{decls_in}
use Rattle.pipe_design.specs.declared.map_parts.parts.PartsOfMap.{PartsOfMap}
use Rattle.pipe_design.proofs.MapParts.Forming.{many}
use Rattle.pipe_design.proofs.MapParts.Gathering.{none_said, HaveParts, parts_more}
use Rattle.pipe_design.proofs.map_parts.parts.map_parts.Goals as goal

pub one_map-requires-clause-targets : goal.one_map-requires-clause-targets
one_map-requires-clause-targets c = c.requires.committing.targets c.loop-m.m none_said (omega (arith, c.loop-m-test.true, c.len-m-end.ensures, many c.args.pipeline_plan.now c.requires.pipeline_plan))

pub loop-m-preserved : goal.loop-m-preserved
loop-m-preserved c =
    let a = c.args in
    let l = c.loop-m in
    let x = c.in_ok-made.made.parts in
    let y = c.in_ok-made.made.change in
    let known : l.m < length a.committing.now.maps.now = omega (arith, c.loop-m-test.true, c.len-m-end.ensures, many a.pipeline_plan.now c.requires.pipeline_plan, c.requires.committing.maps) in
    subst (λ (ys : List (ChangePart (Name Part))). HaveParts a.pipeline_plan.now a.at.now.sites.items a.committing.now (l.m + 1) c.push.new.self.items ys) (sym c.in_ok-push-2.ensures.items)
    (subst (λ (xs : List PartsOfMap). HaveParts a.pipeline_plan.now a.at.now.sites.items a.committing.now (l.m + 1) xs (l.changes.items ++ y ∷ [])) (sym c.in_ok-push.ensures.items)
    (parts_more a.pipeline_plan.now a.at.now.sites.items a.committing.now l.m l.maps.items l.changes.items x y known c.in_ok-made.ensures l.invariant))

pub returns : goal.returns
returns c =
    let l = c.loop-m in
    let whole : l.m ≡ length (decls_in c.args.pipeline_plan.now) = omega (arith, c.loop-m-test.false, c.loop-m.auto, c.len-m-end.ensures, many c.args.pipeline_plan.now c.requires.pipeline_plan) in
    record { count = l.invariant.maps ∙ whole; changes = l.invariant.changes ∙ whole; each = λ m on x y lt. l.invariant.each m x y (omega (arith, lt, whole)) on; value = c.in_ok-value.ensures }
