use Rattle.std.proofs.Common.{◌≡◌}
use Rattle.xdp_maps.specs.State.{decl_at}
use Rattle.port_drive.proofs.DumpSteps.{ReadSoFar}
use Rattle.port_drive.proofs.dumping.dump_map.Given as goal

abbrev pub invariant-loop-index : goal.invariant-loop-index
invariant-loop-index g l = record {
  netlist : g.C.Clocked.netlist l.sim ≡ g.C.Clocked.netlist l.initial.sim;
  read : ReadSoFar (g.C.Clocked.netlist l.initial.sim) (g.C.Clocked.stored l.initial.sim) l.initial.maps l.map (decl_at l.initial.maps l.map) l.index (g.C.Clocked.stored l.sim) l.maps;
}
