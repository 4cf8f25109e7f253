use Rattle.pipe_net.proofs.PipeMaps.TableLemmas.{tables_follow}
use Rattle.pipe_net.proofs.PipeMaps.BeginLemmas.{tables_begin}
use Rattle.pipe_net.proofs.PipeMaps.OpenLemmas.{opened_are_first}
use Rattle.pipe_net.proofs.pipe_maps.laws.tables_follow.Goals as goal

pub returns-clause-clock : goal.returns-clause-clock
returns-clause-clock c = tables_follow c.seen.ensures c.records_alone.ensures c.writes.ensures.number c.one_slot.ensures.slot

pub returns-clause-first : goal.returns-clause-first
returns-clause-first c = tables_begin

pub returns-clause-opened : goal.returns-clause-opened
returns-clause-opened c = opened_are_first
