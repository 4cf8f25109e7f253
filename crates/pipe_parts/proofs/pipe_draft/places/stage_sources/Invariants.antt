use Rattle.std.proofs.Common.{◌≡◌, ℕ, ◌<◌, length, get_or}
use Rattle.pipe_parts.specs.declared.pipe_draft.places.StageSources.{StageSources}
use Rattle.pipe_parts.specs.PipeDraft.Places.{AreStageSources}
use Rattle.pipe_parts.proofs.pipe_draft.places.stage_sources.Given as goal

abbrev pub invariant-loop-k : goal.invariant-loop-k
invariant-loop-k l = record {
  count : length l.places.items ≡ l.k;
  each : (k : ℕ) (b : StageSources) → k < l.k → AreStageSources l.pipeline_plan k (get_or l.places.items k b);
}
