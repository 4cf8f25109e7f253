use Rattle.std.proofs.Common.{true, ap}
use Rattle.net_core.specs.declared.ports.Inputs.{Inputs}
use Rattle.realization.specs.HostHistory.Host.{written}
use Rattle.port_drive.proofs.HostClocks.{one_goes, one_stops}
use Rattle.port_drive.proofs.host_clock.write_word.Goals as goal

pub returns-in-Ok-clause-clocks : goal.returns-in-Ok-clause-clocks
returns-in-Ok-clause-clocks g c =
    let set : Inputs → Inputs = λ i. record i { host_write = true; host_data = c.args.number } in
    one_goes (g.C.Clocked.netlist c.args.sim.now) (g.C.Clocked.stored c.args.sim.now) (g.C.Clocked.stored c.clock.new.self) (set c.asked.result) (written c.args.map c.args.index c.args.word c.args.number) (ap set c.asked.ensures) c.in-Ok.ensures.runs c.in-Ok.ensures.stored

pub returns-in-Err-clause-clocks : goal.returns-in-Err-clause-clocks
returns-in-Err-clause-clocks g c =
    let set : Inputs → Inputs = λ i. record i { host_write = true; host_data = c.args.number } in
    one_stops (g.C.Clocked.netlist c.args.sim.now) (g.C.Clocked.stored c.args.sim.now) (g.C.Clocked.stored c.clock.new.self) (set c.asked.result) (written c.args.map c.args.index c.args.word c.args.number) c.in-Err.stopped.net (ap set c.asked.ensures) c.in-Err.ensures.stops c.in-Err.ensures.unchanged
