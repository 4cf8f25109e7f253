use Rattle.std.proofs.Common.{◌≡◌, drop}
use Rattle.xdp_maps.specs.State.{decl_at, contents_at}
use Rattle.realization.specs.HostHistory.Rows.{rows_of}
use Rattle.realization.specs.HostHistory.Host.{map_writes}
use Rattle.port_drive.proofs.HostClocks.{UnderWay}
use Rattle.port_drive.proofs.loading.load_map.Given as goal

abbrev pub invariant-loop-index : goal.invariant-loop-index
invariant-loop-index g l = record {
  netlist : g.C.Clocked.netlist l.sim ≡ g.C.Clocked.netlist l.initial.sim;
  way : UnderWay (g.C.Clocked.netlist l.initial.sim) (g.C.Clocked.stored l.initial.sim) (map_writes l.map 0 (rows_of (decl_at l.maps l.map) (contents_at l.maps l.map))) (map_writes l.map l.index (drop l.index (rows_of (decl_at l.maps l.map) (contents_at l.maps l.map)))) (g.C.Clocked.stored l.sim);
}
