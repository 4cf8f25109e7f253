use Rattle.std.proofs.Common.{◌≡◌, ◌+◌, ◌≤◌, drop}
use Rattle.event_sim.specs.Events.{ran, events_in}
use Rattle.event_sim.proofs.events.Events.run.Given as goal

abbrev pub invariant-loop-pick : goal.invariant-loop-pick
invariant-loop-pick l = record {
  netlist : l.self.netlist ≡ l.fn.self.netlist;
  ran : ran l.self (drop l.pick-index l.picks) ≡ ran l.fn.self l.picks;
  fired : l.fired + events_in l.self (drop l.pick-index l.picks) ≡ events_in l.fn.self l.picks;
  few : l.fired ≤ l.pick-index;
}
