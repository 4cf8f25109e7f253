use Rattle.cover_core.proofs.Covered.{covers_keep_runs}
use Rattle.cover_core.proofs.laws.covers_keep_runs.Goals as goal

pub returns : goal.returns
returns c = covers_keep_runs (record {
  steps = c.steps_are_sound.ensures;
  conditions = c.conditions_are_sound.ensures;
  start = c.start_is_described.ensures;
  changes = c.steps_change_only.ensures;
  ranges = c.steps_keep_ranges.ensures;
  links = c.nodes_have_links.ensures;
  runs = c.runs_are_sound.ensures;
})
