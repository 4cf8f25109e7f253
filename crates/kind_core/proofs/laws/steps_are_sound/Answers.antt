use Rattle.kind_core.proofs.SoundSteps.{steps_are_sound}
use Rattle.kind_core.proofs.laws.steps_are_sound.Goals as goal

pub returns : goal.returns
returns c = steps_are_sound
