use Rattle.pipe_net.proofs.PipeMaps.KeyLemmas.{keys_follow, keys_begin}
use Rattle.pipe_net.proofs.pipe_maps.laws.keys_stay.Goals as goal

pub returns-clause-clock : goal.returns-clause-clock
returns-clause-clock c = keys_follow c.one_slot.ensures.slot c.one_slot.ensures.value c.keep_bytes.ensures.commit c.keep_bytes.ensures.host

pub returns-clause-first : goal.returns-clause-first
returns-clause-first c = keys_begin c.loads_bytes.ensures c.loads_tables.ensures
