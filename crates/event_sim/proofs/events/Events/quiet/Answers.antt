use Rattle.std.proofs.Common.{subst}
use Rattle.event_sim.specs.Ends.{IsSettled}
use Rattle.event_sim.proofs.Ended.{quiet_settled}
use Rattle.event_sim.proofs.States.{formed_of}
use Rattle.event_sim.proofs.events.Events.quiet.Goals as goal

pub returns-in-None-clause-settled : goal.returns-in-None-clause-settled
returns-in-None-clause-settled c = λ h. subst IsSettled c.self.view_is (quiet_settled _ (formed_of _ c.self.invariant.state) c.in-None.ensures)
