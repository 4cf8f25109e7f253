use Rattle.xdp_maps.proofs.StateLemmas.{sound_seen}
use Rattle.xdp_maps.proofs.state.Maps.decls.Goals as goal

pub returns-clause-sound : goal.returns-clause-sound
returns-clause-sound c = sound_seen c.self.inside.decls.items c.self.inside.tables.items c.args.self.now c.self.view_is c.self.invariant
