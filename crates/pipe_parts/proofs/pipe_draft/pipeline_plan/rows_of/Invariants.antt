use Rattle.std.proofs.Common.{◌≡◌, ℕ, ◌<◌, length, get_or, slice_index}
use Rattle.pipe_parts.proofs.pipe_draft.pipeline_plan.rows_of.Given as goal

abbrev pub invariant-loop-cell : goal.invariant-loop-cell
invariant-loop-cell l = record {
  count : length l.rows.items ≡ l.cell;
  each : (k d : ℕ) → k < l.cell → get_or l.rows.items k d ≡ slice_index l.plan.rows k;
}
