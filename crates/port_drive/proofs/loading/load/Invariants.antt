use Rattle.std.proofs.Common.{◌≡◌, drop}
use Rattle.realization.specs.HostHistory.Host.{load, writes}
use Rattle.port_drive.proofs.HostClocks.{UnderWay}
use Rattle.port_drive.proofs.loading.load.Given as goal

abbrev pub invariant-loop-map : goal.invariant-loop-map
invariant-loop-map g l = record {
  netlist : g.C.Clocked.netlist l.sim ≡ g.C.Clocked.netlist l.initial.sim;
  way : UnderWay (g.C.Clocked.netlist l.initial.sim) (g.C.Clocked.stored l.initial.sim) (load l.maps) (writes l.map (drop l.map l.maps.decls) (drop l.map l.maps.contents)) (g.C.Clocked.stored l.sim);
}
