use Rattle.std.proofs.Common.{◌≡◌, ◌+◌, ◌<◌, ◌∷◌, [], length, drop, refl, ap, ◌∙◌, arith, rules}
use Rattle.std.proofs.lemmas.List.{nil_from_length, length-drop}
use Rattle.beat_core.proofs.BeatLaws.{rest_after}
use Rattle.realization.specs.HostHistory.Rows.{words_of}
use Rattle.realization.specs.HostHistory.Host.{row_writes, written}
use Rattle.port_drive.proofs.HostClocks.{goes_on, stops_in, ends}
use Rattle.port_drive.proofs.LoadLemmas.{writes-step, words-nil}
use Rattle.port_drive.proofs.loading.write_bytes.Goals as goal

pub returns-in-Err-clause-clocks : goal.returns-in-Err-clause-clocks
returns-in-Err-clause-clocks g c =
    let some : 0 < length c.loop-rest.rest.now = search rules in
    let step = writes-step c.args.map c.args.index c.loop-rest.word (c.loop-rest.word + 1) c.first_word.result c.loop-rest.rest.now (drop 8 c.loop-rest.rest.now) some c.first_word.ensures refl refl in
    stops_in (g.C.Clocked.netlist c.args.sim.now) (g.C.Clocked.stored c.args.sim.now) _ (written c.args.map c.args.index c.loop-rest.word c.first_word.result ∷ []) (row_writes c.args.map c.args.index (c.loop-rest.word + 1) (words_of (drop 8 c.loop-rest.rest.now))) _ (g.C.Clocked.stored c.loop-rest.sim) (g.C.Clocked.stored c.write_word.new.sim) c.in-Err.stopped.net c.loop-rest.invariant.way step (rw c.loop-rest.invariant.netlist at c.in-Err.ensures.clocks)

pub loop-rest-preserved : goal.loop-rest-preserved
loop-rest-preserved g c =
    let some : 0 < length c.loop-rest.rest.now = search rules in
    let left = rest_after c.loop-rest.rest.now c.min.result c.min.ensures in
    let less = ap length left ∙ length-drop 8 c.loop-rest.rest.now in
    record {
      netlist = c.in-Ok.ensures.netlist ∙ c.loop-rest.invariant.netlist;
      way = goes_on (g.C.Clocked.netlist c.args.sim.now) (g.C.Clocked.stored c.args.sim.now) _ (written c.args.map c.args.index c.loop-rest.word c.first_word.result ∷ []) _ _ (g.C.Clocked.stored c.loop-rest.sim) (g.C.Clocked.stored c.write_word.new.sim) c.loop-rest.invariant.way (writes-step c.args.map c.args.index c.loop-rest.word (c.loop-rest.word + 1) c.first_word.result c.loop-rest.rest.now _ some c.first_word.ensures left refl) (rw c.loop-rest.invariant.netlist at c.in-Ok.ensures.clocks);
      room = omega (arith, less, some, c.loop-rest.invariant.room);
    }

pub returns-clause-clocks : goal.returns-clause-clocks
returns-clause-clocks g c =
    let none : length c.loop-rest.rest.now ≡ 0 = search rules in
    ends (g.C.Clocked.netlist c.args.sim.now) (g.C.Clocked.stored c.args.sim.now) _ _ (g.C.Clocked.stored c.loop-rest.sim) c.loop-rest.invariant.way (ap (row_writes c.args.map c.args.index c.loop-rest.word) (words-nil c.loop-rest.rest.now (nil_from_length c.loop-rest.rest.now none)))
