use Rattle.std.proofs.Common.{◌≡◌, ◌∙◌, ℕ, suc, ◌+◌, ◌<◌, ◌≤◌, length, sym, ap, subst, arith}
use Rattle.std.proofs.lemmas.List.{get_or_default}
use Rattle.block_core.specs.View.{block_of}
use Rattle.overlay_net.specs.cell_nets.Wires.{wires_of}
use Rattle.pipe_parts.specs.PipeDraft.PipelinePlan.{plan_in}
use Rattle.pipe_parts.specs.PipeDraft.Places.{AreStageSources}
use Rattle.place_parts.specs.Places.{StandsBefore, IsStageOf}
use Rattle.place_parts.proofs.Standing.{stands_later}
use Rattle.place_parts.proofs.stages.later_stage.Goals as goal

pub stage_over-requires-clause-before : goal.stage_over-requires-clause-before
stage_over-requires-clause-before c =
    let d = c.args.pipeline_plan.now in
    let k : ℕ = c.args.before in
    let next : suc k ≡ k + 1 = omega arith in
    let low : k ≤ (plan_in d).last = omega (arith, c.requires.place) in
    let b = c.index-places-before.result in
    subst (λ n. StandsBefore d n b) next (stands_later d c.requires.pipeline_plan k b (subst (AreStageSources d k) (sym c.index-places-before.is) (c.requires.places.each k b low)))

pub returns : goal.returns
returns c =
    let places = c.args.places.now in
    let k : ℕ = c.args.before in
    let next : k + 1 ≡ suc k = omega arith in
    let there : k < length places = omega (arith, c.requires.place, c.requires.places.count) in
    λ x.
    let same = c.index-places-before.is ∙ get_or_default places k c.index-places-before.result x there in
    let none = ap wires_of c.new-wires.ensures.items in
    coe 0 1 (i. IsStageOf c.args.pipeline_plan.now (same i) c.args.maps.now c.args.words.now (none i) (next i) (block_of c.in_ok-block.block)) c.in_ok-block.ensures
