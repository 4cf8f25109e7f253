use Rattle.unfold_core.proofs.Runs.{runs_are_sound}
use Rattle.unfold_core.proofs.laws.runs_are_sound.Goals as goal

pub returns : goal.returns
returns c = runs_are_sound (record {
  steps = c.steps_are_sound.ensures;
  later = c.later_describes.ensures;
  joins = c.join_describes.ensures;
  start = c.start_is_described.ensures;
  changes = c.steps_change_only.ensures;
  ranges = c.steps_keep_ranges.ensures;
})
