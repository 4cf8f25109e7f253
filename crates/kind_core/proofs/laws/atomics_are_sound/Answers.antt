use Rattle.kind_core.proofs.SoundAtomics.{atomics_are_sound}
use Rattle.kind_core.proofs.laws.atomics_are_sound.Goals as goal

pub returns : goal.returns
returns c = atomics_are_sound
