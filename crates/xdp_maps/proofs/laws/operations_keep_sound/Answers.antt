use Rattle.xdp_maps.proofs.SoundLaws.{operations_keep_sound}
use Rattle.xdp_maps.proofs.laws.operations_keep_sound.Goals as goal

pub returns : goal.returns
returns c = operations_keep_sound
