use Rattle.kind_core.proofs.SoundCalls.{calls_are_sound}
use Rattle.kind_core.proofs.laws.calls_are_sound.Goals as goal

pub returns : goal.returns
returns c = calls_are_sound
