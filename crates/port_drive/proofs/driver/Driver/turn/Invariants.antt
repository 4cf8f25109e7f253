use Rattle.std.proofs.Common.{◌≡◌, ◌-◌}
use Rattle.port_drive.proofs.TurnLaws.{Turning}
use Rattle.port_drive.proofs.driver.Driver.turn.Given as goal

abbrev pub invariant-loop-turn : goal.invariant-loop-turn
invariant-loop-turn g l = record {
  netlist : g.C.Clocked.netlist l.sim ≡ g.C.Clocked.netlist l.initial.sim;
  turning : Turning l.initial.self l.self (g.C.Clocked.netlist l.initial.sim) (g.C.Clocked.stored l.initial.sim) (g.C.Clocked.stored l.sim);
  ifindex : l.self.ifindex ≡ l.initial.self.ifindex;
  limit : l.self.limit ≡ l.initial.self.limit;
  given : l.self.given ≡ l.initial.self.given;
  ended : l.self.ended ≡ l.initial.self.ended;
}

abbrev pub decreases-loop-turn : goal.decreases-loop-turn
decreases-loop-turn g l = l.self.limit - l.self.clocks
