use Rattle.hazard_core.proofs.TableLaws.Leading.{begins_lead, rows_lead, changes_lead, writes_lead}
use Rattle.hazard_core.proofs.table_laws.laws.founds_lead.Goals as goal

pub returns : goal.returns
returns c = record { begins = begins_lead; rows = rows_lead; changes = changes_lead; writes = writes_lead }
