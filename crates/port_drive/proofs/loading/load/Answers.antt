use Rattle.std.proofs.Common.{◌+◌, ◌<◌, length, drop, ap, ◌∙◌, arith}
use Rattle.realization.specs.HostHistory.Rows.{rows_of}
use Rattle.xdp_maps.specs.State.{decl_at, contents_at}
use Rattle.realization.specs.HostHistory.Host.{map_writes, writes}
use Rattle.port_drive.proofs.HostClocks.{goes_on, stops_in}
use Rattle.port_drive.proofs.LoadLemmas.{map-step}
use Rattle.port_drive.proofs.loading.load.Goals as goal

pub returns-in-Err-clause-clocks : goal.returns-in-Err-clause-clocks
returns-in-Err-clause-clocks g c =
    let s = c.args.maps.now in
    let m = c.loop-map.map in
    let lt : m < length s.decls = omega (arith, c.loop-map-test.true, c.loop-map.auto.map-end, ap length c.decls-map-end.ensures.decls) in
    stops_in (g.C.Clocked.netlist c.args.sim.now) (g.C.Clocked.stored c.args.sim.now) _ (map_writes m 0 (rows_of (decl_at s m) (contents_at s m))) (writes (m + 1) (drop (m + 1) s.decls) (drop (m + 1) s.contents)) _ (g.C.Clocked.stored c.loop-map.sim) (g.C.Clocked.stored c.load_map.new.sim) c.in-Err.x.net c.loop-map.invariant.way (map-step s m lt c.decls-map-end.ensures.sound.beside) (rw c.loop-map.invariant.netlist at c.in-Err.ensures.clocks)

pub loop-map-preserved : goal.loop-map-preserved
loop-map-preserved g c =
    let s = c.args.maps.now in
    let m = c.loop-map.map in
    let lt : m < length s.decls = omega (arith, c.loop-map-test.true, c.loop-map.auto.map-end, ap length c.decls-map-end.ensures.decls) in
    record {
      netlist = c.in-Ok.ensures.netlist ∙ c.loop-map.invariant.netlist;
      way = goes_on (g.C.Clocked.netlist c.args.sim.now) (g.C.Clocked.stored c.args.sim.now) _ (map_writes m 0 (rows_of (decl_at s m) (contents_at s m))) (writes (m + 1) (drop (m + 1) s.decls) (drop (m + 1) s.contents)) _ (g.C.Clocked.stored c.loop-map.sim) (g.C.Clocked.stored c.load_map.new.sim) c.loop-map.invariant.way (map-step s m lt c.decls-map-end.ensures.sound.beside) (rw c.loop-map.invariant.netlist at c.in-Ok.ensures.clocks);
    }
