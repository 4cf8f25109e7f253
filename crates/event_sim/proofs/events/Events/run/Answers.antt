use Rattle.std.proofs.Common.{subst, arith}
use Rattle.std.proofs.lemmas.List.{at_drop_all}
use Rattle.event_sim.specs.Events.{events_in}
use Rattle.event_sim.proofs.Ended.{IsFormed, events_few}
use Rattle.event_sim.proofs.States.{formed_of}
use Rattle.event_sim.proofs.events.Events.run.Goals as goal

pub returns-clause-few : goal.returns-clause-few
returns-clause-few c =
    let formed = subst IsFormed c.self.view_is (formed_of _ c.self.invariant.state) in
    let small = events_few c.args.self.now formed c.args.picks.now c.requires in
    let none = at_drop_all (events_in c.loop-pick.self) c.args.picks.now c.loop-pick.pick-index c.loop-pick-test.false in
    omega (arith, small, none, c.loop-pick.invariant.fired)
