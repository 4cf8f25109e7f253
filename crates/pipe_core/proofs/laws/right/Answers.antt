use Rattle.pipe_core.proofs.Righting.{actions_are_right, keeps_right, always_right}
use Rattle.pipe_core.proofs.laws.right.Goals as goal

pub returns : goal.returns
returns c = record {
  action = actions_are_right c.in_turn.ensures c.sees_earlier.ensures;
  clock = keeps_right c.agreed.ensures.clock c.in_turn.ensures c.sees_earlier.ensures;
  always = always_right (keeps_right c.agreed.ensures.clock c.in_turn.ensures c.sees_earlier.ensures) c.loads_tables.ensures;
}
