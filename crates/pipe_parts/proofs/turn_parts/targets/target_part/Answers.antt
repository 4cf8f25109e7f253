use Rattle.std.proofs.Common.{◌∙◌, ℕ, All, get_or, subst}
use Rattle.std.proofs.lemmas.List.{get_or_default}
use Rattle.block_core.specs.View.{block_of}
use Rattle.read_net.specs.Sites.{IsOwn}
use Rattle.commit_net.specs.declared.map_block.form.MapForm.{MapForm}
use Rattle.turn_net.specs.TargetNet.Targets.{IsTargets}
use Rattle.pipe_net.specs.declared.parts.Part.{Part}
use Rattle.pipe_parts.specs.PipeDraft.PipelinePlan.{program_in}
use Rattle.pipe_parts.specs.TurnParts.Records.{IsTargetPart}
use Rattle.pipe_parts.proofs.TurnParts.Siting.{no_form, whole_for, decl_is}
use Rattle.pipe_parts.proofs.turn_parts.targets.target_part.Goals as goal

pub targets-requires-clause-map : goal.targets-requires-clause-map
targets-requires-clause-map c = (c.requires.map no_form).is

pub targets-requires-clause-records : goal.targets-requires-clause-records
targets-requires-clause-records c i o lt =
    let d = c.args.pipeline_plan.now in
    let m : ℕ = c.args.m in
    let n = c.args.map.now in
    let at = c.requires.map no_form in
    whole_for d m n (get_or c.args.owns.now i o) (at.decl ∙ decl_is d m no_form c.requires.there) at.bits ((c.requires.owns.1).each i o lt).whole

pub returns : goal.returns
returns c = λ f.
    let d = c.args.pipeline_plan.now in
    let p = program_in d in
    let m : ℕ = c.args.m in
    let owns = c.args.owns.now in
    let made = c.in_ok-made.made in
    let form = c.index.result.now in
    let own : All (IsOwn p m) owns = λ i o lt. ((c.requires.owns.1).each i o lt).own in
    subst (λ (g : MapForm). IsTargetPart d m c.args.map.now owns c.args.taken.now g made) (c.index.ensures ∙ get_or_default d.forms.items m form f c.requires.there)
    (subst (λ (x : Part). IsTargets p m x c.args.map.now form.bits owns c.args.taken.now made.targets.items (block_of made.block)) c.targets-part.ensures (c.in_ok-made.ensures p m own))
