use Rattle.std.proofs.Common.{◌≡◌, ◌+◌, ◌-◌, length}
use Rattle.port_drive.specs.Giving.{to_come}
use Rattle.port_drive.proofs.DriveLaws.{Driven}
use Rattle.port_drive.proofs.driving.drive.Given as goal

abbrev pub invariant-loop-answers : goal.invariant-loop-answers
invariant-loop-answers g l = record {
  netlist : g.C.Clocked.netlist l.sim ≡ g.C.Clocked.netlist l.fn.sim;
  driven : Driven (g.C.Clocked.netlist l.fn.sim) (g.C.Clocked.stored l.fn.sim) (g.C.Clocked.stored l.sim) l.frames l.fn.answers l.answers l.ifindex l.limit l.driver;
}

abbrev pub decreases-loop-answers : goal.decreases-loop-answers
decreases-loop-answers g l = to_come (length l.frames) l.driver + (length l.frames - l.driver.answers)
