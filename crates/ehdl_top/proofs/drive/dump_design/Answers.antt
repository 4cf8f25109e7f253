use Rattle.port_drive.specs.realization.HostHistory.Host.{dump}
use Rattle.ehdl_top.proofs.SimulationLemmas.{host_goes, host_stops, host_inside, dump_whole, dump_stops}
use Rattle.ehdl_top.proofs.drive.dump_design.Goals as goal

pub give_up-requires : goal.give_up-requires
give_up-requires g c =
    host_inside (g.C.Clocked.netlist c.args.sim.now) (g.C.Clocked.netlist c.dump.new.sim) (g.C.Clocked.stored c.args.sim.now) (g.C.Clocked.stored c.dump.new.sim) (dump c.args.decls.now) c.dump.result c.in-Err.error c.requires.formed c.in-Err.is c.dump.ensures.clocks c.dump.ensures.netlist

pub returns-in-Ok : goal.returns-in-Ok
returns-in-Ok g c =
    let went = host_goes (g.C.Clocked.netlist c.args.sim.now) (g.C.Clocked.stored c.args.sim.now) (g.C.Clocked.stored c.dump.new.sim) (dump c.args.decls.now) c.dump.result c.in-Ok.maps c.in-Ok.is c.dump.ensures.clocks in
    dump_whole (g.C.Clocked.netlist c.args.sim.now) (g.C.Clocked.stored c.args.sim.now) c.args.decls.now c.in-Ok.maps went.0 c.in-Ok.ensures.maps

pub returns-in_ok-error-in-Err : goal.returns-in_ok-error-in-Err
returns-in_ok-error-in-Err g c =
    dump_stops (g.C.Clocked.netlist c.args.sim.now) (g.C.Clocked.stored c.args.sim.now) c.args.decls.now c.in_ok-error-in-Err.error
    (host_stops (g.C.Clocked.netlist c.args.sim.now) (g.C.Clocked.netlist c.dump.new.sim) (g.C.Clocked.stored c.args.sim.now) (g.C.Clocked.stored c.dump.new.sim) (dump c.args.decls.now) c.dump.result c.in-Err.error c.in_ok-error-in-Err.error c.in-Err.is c.dump.ensures.clocks c.dump.ensures.netlist c.in_ok-error-in-Err.ensures)
