use Rattle.beat_core.proofs.PortLaws.{frames-arrive, answers-given}
use Rattle.beat_core.proofs.laws.ports.Goals as goal

pub returns : goal.returns
returns c = record { arrivals = frames-arrive; answers = answers-given }
