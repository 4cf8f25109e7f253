use Rattle.commit_net.proofs.LawLemmas.{one_slot, one_value}
use Rattle.commit_net.proofs.laws.one_slot.Goals as goal

pub returns-clause-slot : goal.returns-clause-slot
returns-clause-slot c = one_slot

pub returns-clause-value : goal.returns-clause-value
returns-clause-value c = one_value
