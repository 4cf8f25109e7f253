use Rattle.std.proofs.Common.{◌<◌, Err, ◌∙◌, subst}
use Rattle.port_drive.specs.Driving.{IsSameDrive, ClocksOn}
use Rattle.port_drive.proofs.TurnLaws.{turn_ended, turning_clocked, turn_failed, less_than_limit}
use Rattle.port_drive.proofs.driver.Driver.turn.Goals as goal

pub returns-in-Ok-true-clause-turn : goal.returns-in-Ok-true-clause-turn
returns-in-Ok-true-clause-turn g c =
    turn_ended c.args.self.now c.loop-turn.self (g.C.Clocked.netlist c.args.sim.now) (g.C.Clocked.stored c.args.sim.now) (g.C.Clocked.stored c.loop-turn.sim) c.loop-turn.invariant.turning c.clock.new.self (g.C.Clocked.stored c.clock.new.sim)
    c.in-Ok-true.field-0 c.in-Ok-true.field-0-test c.in-None.ensures.due (rw c.loop-turn.invariant.netlist at c.in-Ok-true.ensures.clock)

pub loop-turn-preserved : goal.loop-turn-preserved
loop-turn-preserved g c = record {
  netlist = c.in-Ok-false.ensures.netlist ∙ c.loop-turn.invariant.netlist;
  turning =
      turning_clocked c.args.self.now c.loop-turn.self (g.C.Clocked.netlist c.args.sim.now) (g.C.Clocked.stored c.args.sim.now) (g.C.Clocked.stored c.loop-turn.sim) c.loop-turn.invariant.turning c.clock.new.self (g.C.Clocked.stored c.clock.new.sim)
      c.in-Ok-false.field-0 c.in-Ok-false.field-0-test c.in-None.ensures.due (rw c.loop-turn.invariant.netlist at c.in-Ok-false.ensures.clock);
  ifindex = c.in-Ok-false.ensures.same.0 ∙ c.loop-turn.invariant.ifindex;
  limit = c.in-Ok-false.ensures.same.1 ∙ c.loop-turn.invariant.limit;
  given = c.in-Ok-false.ensures.same.2 ∙ c.loop-turn.invariant.given;
  ended = c.in-Ok-false.ensures.same.3 ∙ c.loop-turn.invariant.ended;
}

pub returns-in-Err-clause-turn : goal.returns-in-Err-clause-turn
returns-in-Err-clause-turn g c =
    let more : c.loop-turn.self.clocks < c.loop-turn.self.limit = less_than_limit _ _ c.is_late.result c.is_late.ensures.late c.if-is_late.false c.is_late.ensures.within in
    let same : IsSameDrive c.args.self.now c.loop-turn.self =
    record { ifindex = c.loop-turn.invariant.ifindex; limit = c.loop-turn.invariant.limit; given = c.loop-turn.invariant.given; ended = c.loop-turn.invariant.ended } in
    turn_failed c.args.self.now c.loop-turn.self (g.C.Clocked.netlist c.args.sim.now) (g.C.Clocked.stored c.args.sim.now) (g.C.Clocked.stored c.loop-turn.sim) c.loop-turn.invariant.turning c.clock.new.self (g.C.Clocked.stored c.clock.new.sim)
    c.in-Err.error same c.in-None.ensures.due more
    (subst (λ d. ClocksOn c.loop-turn.self c.clock.new.self d (g.C.Clocked.stored c.loop-turn.sim) (g.C.Clocked.stored c.clock.new.sim) (Err c.in-Err.error)) c.loop-turn.invariant.netlist c.in-Err.ensures.clock)
