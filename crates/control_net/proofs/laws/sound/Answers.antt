use Rattle.control_net.proofs.Sound.{starts_sound, stays_sound}
use Rattle.control_net.proofs.laws.sound.Goals as goal

pub returns : goal.returns
returns c = record { starts = starts_sound; stays = stays_sound }
