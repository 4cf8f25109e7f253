use Rattle.std.proofs.Common.{◌≡◌}
use Rattle.port_drive.proofs.DumpSteps.{DumpedSoFar}
use Rattle.port_drive.proofs.dumping.dump.Given as goal

abbrev pub invariant-loop-map : goal.invariant-loop-map
invariant-loop-map g l = record {
  netlist : g.C.Clocked.netlist l.sim ≡ g.C.Clocked.netlist l.initial.sim;
  dumped : DumpedSoFar (g.C.Clocked.netlist l.initial.sim) (g.C.Clocked.stored l.initial.sim) l.decls l.map (g.C.Clocked.stored l.sim) l.maps;
}
