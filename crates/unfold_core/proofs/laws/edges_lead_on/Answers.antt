use Rattle.unfold_core.proofs.LinkLaws.{edges_lead_on}
use Rattle.unfold_core.proofs.laws.edges_lead_on.Goals as goal

pub returns : goal.returns
returns c = edges_lead_on
