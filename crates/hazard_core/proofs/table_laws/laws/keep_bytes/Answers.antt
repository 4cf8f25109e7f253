use Rattle.hazard_core.proofs.TableLaws.Keeping.{commit_bytes, host_bytes}
use Rattle.hazard_core.proofs.table_laws.laws.keep_bytes.Goals as goal

pub returns : goal.returns
returns c = record { commit = commit_bytes; host = host_bytes }
