use Rattle.kind_core.proofs.SoundStores.{stores_are_sound}
use Rattle.kind_core.proofs.laws.stores_are_sound.Goals as goal

pub returns : goal.returns
returns c = stores_are_sound
