use Rattle.std.proofs.Common.{sym, subst}
use Rattle.net_core.specs.Nets.{Netlist}
use Rattle.net_core.specs.Clock.{Stored, first_stored}
use Rattle.net_core.specs.Trace.{NeverStops}
use Rattle.net_core.specs.View.{netlist_of}
use Rattle.port_drive.specs.realization.HostHistory.Host.{load}
use Rattle.verilog_read.proofs.design_rules_laws.FormedWidthLaws.{typed}
use Rattle.ehdl_top.proofs.RealizedLemmas.{goes_whole}
use Rattle.ehdl_top.proofs.pipeline.open_loaded.Goals as goal

pub open-requires : goal.open-requires
open-requires c = typed _ c.requires.formed

pub unreachable-requires : goal.unreachable-requires
unreachable-requires c =
    let clocks = load c.args.maps.now in
    let d = netlist_of c.args.design in
    let sim = c.in_ok-sim.sim in
    goes_whole sim.netlist sim.stored c.load.new.sim.stored clocks c.load.result c.in-Err.field-0 c.in-Err.is c.load.ensures.clocks c.load.ensures.memory
    (subst (λ (s : Stored). NeverStops sim.netlist s clocks) (sym c.in_ok-sim.ensures.stored)
    (subst (λ (e : Netlist). NeverStops e (first_stored d) clocks) (sym c.in_ok-sim.ensures.netlist) c.requires.goes))
