use Rattle.hazard_core.proofs.Leaving.{maps_in_turn, reads_in_turn}
use Rattle.hazard_core.proofs.laws.maps_in_turn.Goals as goal

pub returns : goal.returns
returns c = record {
  maps = maps_in_turn c.update_laws.ensures c.delete_laws.ensures c.entry_laws.ensures c.index_laws.ensures;
  reads = reads_in_turn c.update_laws.ensures c.delete_laws.ensures c.entry_laws.ensures c.index_laws.ensures;
}
