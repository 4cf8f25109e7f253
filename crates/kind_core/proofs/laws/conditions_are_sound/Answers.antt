use Rattle.kind_core.proofs.SoundConditions.{conditions_are_sound}
use Rattle.kind_core.proofs.laws.conditions_are_sound.Goals as goal

pub returns : goal.returns
returns c = conditions_are_sound
