use Rattle.std.proofs.Common.{◌+◌, ◌<◌, ◌∷◌, [], length, ◌∙◌, arith}
use Rattle.realization.specs.HostHistory.Host.{asked}
use Rattle.port_drive.proofs.HostClocks.{goes_on, stops_in}
use Rattle.port_drive.proofs.DumpSteps.{words_from, words-next, row_on}
use Rattle.port_drive.proofs.dumping.read_row.Goals as goal

pub returns-in-Err-clause-clocks : goal.returns-in-Err-clause-clocks
returns-in-Err-clause-clocks g c =
    let n = length c.args.row.now in
    let lt : c.loop-word.word < n = omega (arith, c.loop-word-test.true, c.loop-word.auto.row) in
    stops_in (g.C.Clocked.netlist c.args.sim.now) (g.C.Clocked.stored c.args.sim.now) _ (asked c.args.map c.args.index c.loop-word.word ∷ []) (words_from c.args.map c.args.index (c.loop-word.word + 1) n) _ (g.C.Clocked.stored c.loop-word.sim) (g.C.Clocked.stored c.read_word.new.sim) c.in-Err.stopped.net c.loop-word.invariant.way (words-next c.args.map c.args.index c.loop-word.word n lt) (rw c.loop-word.invariant.netlist at c.in-Err.ensures.clocks)

pub loop-word-preserved : goal.loop-word-preserved
loop-word-preserved g c =
    let n = length c.args.row.now in
    let lt : c.loop-word.word < n = omega (arith, c.loop-word-test.true, c.loop-word.auto.row) in
    let within : c.loop-word.word < length c.loop-word.row = omega (arith, c.loop-word-test.true, c.loop-word.auto.row) in
    let went = rw c.loop-word.invariant.netlist at c.in-Ok.ensures.clocks in
    record {
      netlist = c.in-Ok.ensures.netlist ∙ c.loop-word.invariant.netlist;
      way = goes_on (g.C.Clocked.netlist c.args.sim.now) (g.C.Clocked.stored c.args.sim.now) _ (asked c.args.map c.args.index c.loop-word.word ∷ []) (words_from c.args.map c.args.index (c.loop-word.word + 1) n) _ (g.C.Clocked.stored c.loop-word.sim) (g.C.Clocked.stored c.read_word.new.sim) c.loop-word.invariant.way (words-next c.args.map c.args.index c.loop-word.word n lt) went;
      shown = row_on (g.C.Clocked.netlist c.args.sim.now) (g.C.Clocked.stored c.loop-word.sim) (g.C.Clocked.stored c.read_word.new.sim) c.args.map c.args.index c.loop-word.word n c.loop-word.row _ c.in-Ok.shown lt within (rw c.loop-word.invariant.netlist at c.in-Ok.ensures.shown) went.1 c.loop-word.invariant.shown;
    }
