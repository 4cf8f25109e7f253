use Rattle.maps_text.proofs.ReadBack.{read_back}
use Rattle.maps_text.proofs.laws.written_is_read.Goals as goal

pub returns : goal.returns
returns c = λ s sound named. read_back s sound named c.index_laws.ensures c.pair_laws.ensures c.keeps_over.ensures c.same_by_lookups.ensures
