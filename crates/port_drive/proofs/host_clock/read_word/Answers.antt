use Rattle.std.proofs.Common.{ap, ◌∙◌}
use Rattle.net_core.specs.Ports.{outputs_of}
use Rattle.realization.specs.HostHistory.Host.{asked}
use Rattle.port_drive.proofs.HostClocks.{one_goes, one_stops}
use Rattle.port_drive.proofs.host_clock.read_word.Goals as goal

pub returns-in-Ok-clause-clocks : goal.returns-in-Ok-clause-clocks
returns-in-Ok-clause-clocks g c =
    one_goes (g.C.Clocked.netlist c.args.sim.now) (g.C.Clocked.stored c.args.sim.now) (g.C.Clocked.stored c.clock.new.self) c.asked.result (asked c.args.map c.args.index c.args.word) c.asked.ensures c.in-Ok.ensures.runs c.in-Ok.ensures.stored

pub returns-in-Ok-clause-shown : goal.returns-in-Ok-clause-shown
returns-in-Ok-clause-shown g c =
    ap (λ o. o.host_value) c.in-Ok.ensures.outputs ∙ ap (λ i. (outputs_of (g.C.Clocked.netlist c.args.sim.now) i (g.C.Clocked.stored c.args.sim.now)).host_value) c.asked.ensures

pub returns-in-Err-clause-clocks : goal.returns-in-Err-clause-clocks
returns-in-Err-clause-clocks g c =
    one_stops (g.C.Clocked.netlist c.args.sim.now) (g.C.Clocked.stored c.args.sim.now) (g.C.Clocked.stored c.clock.new.self) c.asked.result (asked c.args.map c.args.index c.args.word) c.in-Err.stopped.net c.asked.ensures c.in-Err.ensures.stops c.in-Err.ensures.unchanged
