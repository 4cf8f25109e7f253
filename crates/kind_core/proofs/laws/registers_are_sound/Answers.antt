use Rattle.kind_core.proofs.SoundRegisters.{registers_are_sound}
use Rattle.kind_core.proofs.laws.registers_are_sound.Goals as goal

pub returns : goal.returns
returns c = registers_are_sound
