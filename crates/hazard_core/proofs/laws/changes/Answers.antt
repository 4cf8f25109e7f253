use Rattle.hazard_core.proofs.Changing.{commits_change, host_changes}
use Rattle.hazard_core.proofs.laws.changes.Goals as goal

pub returns : goal.returns
returns c = record { commits = commits_change; host = host_changes }
