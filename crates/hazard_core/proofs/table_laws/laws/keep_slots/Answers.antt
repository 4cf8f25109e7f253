use Rattle.hazard_core.proofs.TableLaws.Keeping.{commit_slots, host_slots}
use Rattle.hazard_core.proofs.table_laws.laws.keep_slots.Goals as goal

pub returns : goal.returns
returns c = record { commit = commit_slots; host = host_slots }
