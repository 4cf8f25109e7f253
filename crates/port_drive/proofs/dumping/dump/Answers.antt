use Rattle.std.proofs.Common.{◌+◌, ◌<◌, length, drop, subst, ◌∙◌, arith}
use Rattle.net_core.specs.Trace.{NeverStops}
use Rattle.xdp_maps.specs.State.{decl_at}
use Rattle.realization.specs.HostHistory.Host.{map_reads, reads, dump}
use Rattle.port_drive.proofs.HostClocks.{stops_in}
use Rattle.port_drive.proofs.DumpSteps.{next_map, dumped_on}
use Rattle.port_drive.proofs.HostLaws.{never_stops}
use Rattle.port_drive.proofs.dumping.dump.Goals as goal

pub returns-in-Err-clause-clocks : goal.returns-in-Err-clause-clocks
returns-in-Err-clause-clocks g c =
    let d = g.C.Clocked.netlist c.args.sim.now in
    let s = g.C.Clocked.stored c.args.sim.now in
    let decls = c.args.decls.now in
    let m = c.loop-map.map in
    let lt : m < length decls = omega (arith, c.loop-map-test.true) in
    stops_in d s (dump decls) (map_reads m (decl_at c.loop-map.maps m)) (reads (m + 1) (drop (m + 1) decls)) (reads m (drop m decls)) (g.C.Clocked.stored c.loop-map.sim) (g.C.Clocked.stored c.dump_map.new.sim) c.in-Err.x.net c.loop-map.invariant.dumped.way (next_map d s decls m (g.C.Clocked.stored c.loop-map.sim) c.loop-map.maps c.loop-map.invariant.dumped lt) (rw c.loop-map.invariant.netlist at c.in-Err.ensures.clocks)

pub returns-in-Err-clause-shown : goal.returns-in-Err-clause-shown
returns-in-Err-clause-shown g c maps same shows =
    let stop = returns-in-Err-clause-clocks g c in
    never_stops (g.C.Clocked.netlist c.args.sim.now) (g.C.Clocked.stored c.args.sim.now) (g.C.Clocked.stored c.dump_map.new.sim) (dump c.args.decls.now) stop.0 (subst (λ l. NeverStops (g.C.Clocked.netlist c.args.sim.now) (g.C.Clocked.stored c.args.sim.now) (dump l)) same shows.never) stop.1

pub loop-map-preserved : goal.loop-map-preserved
loop-map-preserved g c =
    let d = g.C.Clocked.netlist c.args.sim.now in
    let s = g.C.Clocked.stored c.args.sim.now in
    let decls = c.args.decls.now in
    let m = c.loop-map.map in
    let lt : m < length decls = omega (arith, c.loop-map-test.true) in
    record {
      netlist = c.in-Ok-dump_map.ensures.netlist ∙ c.loop-map.invariant.netlist;
      dumped = dumped_on d s decls m (g.C.Clocked.stored c.loop-map.sim) c.loop-map.maps c.loop-map.invariant.dumped (g.C.Clocked.stored c.dump_map.new.sim) c.dump_map.new.maps lt (rw c.loop-map.invariant.netlist at c.in-Ok-dump_map.ensures.clocks) (rw c.loop-map.invariant.netlist at c.in-Ok-dump_map.ensures.maps);
    }
