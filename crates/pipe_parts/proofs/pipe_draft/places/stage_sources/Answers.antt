use Rattle.std.proofs.Common.{◌≡◌, ℕ, ◌+◌, ◌<◌, List, length, get_or, sym, subst}
use Rattle.block_core.proofs.list_laws_laws.PlaceLaws.{each_more, one_more}
use Rattle.pipe_parts.specs.declared.pipe_draft.places.StageSources.{StageSources}
use Rattle.pipe_parts.specs.PipeDraft.Places.{AreStageSources}
use Rattle.pipe_parts.proofs.pipe_draft.places.stage_sources.Goals as goal

pub loop-k-preserved : goal.loop-k-preserved
loop-k-preserved c =
    let inv = c.loop-k.invariant in
    let x = c.in_ok-stage_sources_at.field-0 in
    subst (λ xs. record { count : length xs ≡ c.loop-k.k + 1; each : (k : ℕ) (b : StageSources) → k < c.loop-k.k + 1 → AreStageSources c.args.pipeline_plan.now k (get_or xs k b) }) (sym {A = List StageSources} c.in_ok-push.ensures.items)
    (record {
      count = one_more c.loop-k.places.items c.loop-k.k x inv.count;
      each = each_more (AreStageSources c.args.pipeline_plan.now) c.loop-k.places.items c.loop-k.k x inv.count inv.each c.in_ok-stage_sources_at.ensures;
    })
