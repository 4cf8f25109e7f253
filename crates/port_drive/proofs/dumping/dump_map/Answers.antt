use Rattle.std.proofs.Common.{◌≡◌, ◌+◌, ◌<◌, ◌++◌, length, map, refl, sym, ap, ◌∙◌, arith}
use Rattle.std.proofs.lemmas.List.{length-take-le}
use Rattle.std.specs.List.{range_with_len}
use Rattle.xdp_maps.specs.State.{decl_at}
use Rattle.realization.specs.HostHistory.Rows.{row_length}
use Rattle.realization.specs.HostHistory.Host.{asked}
use Rattle.port_drive.proofs.HostClocks.{stops_in}
use Rattle.port_drive.proofs.LoadLemmas.{decl_read}
use Rattle.port_drive.proofs.DumpSteps.{read_first, read_on, rows_from, rows-next}
use Rattle.port_drive.proofs.dumping.dump_map.Goals as goal

pub loop-index-init : goal.loop-index-init
loop-index-init g c = record {
  netlist = refl;
  read = read_first (g.C.Clocked.netlist c.args.sim.now) (g.C.Clocked.stored c.args.sim.now) c.args.maps.now c.args.map (decl_at c.args.maps.now c.args.map) c.requires.opened;
}

pub returns-in-Err-clause-clocks : goal.returns-in-Err-clause-clocks
returns-in-Err-clause-clocks g c =
    let old = c.args.maps.now in
    let m = c.args.map in
    let i = c.loop-index.index in
    let decl = decl_read old c.decls.result.now m c.index-decls-map.result c.decls.ensures.decls c.requires.map c.index-decls-map.is in
    let n = length c.loop-index.row in
    let words : n ≡ row_length (decl_at old m) = c.loop-index.auto.row ∙ length-take-le c.row_length-words.result _ c.row_length-words.ensures.few ∙ c.row_length-words.ensures.words ∙ ap row_length decl in
    let lt : i < (decl_at old m).cap = omega (arith, c.loop-index-test.true, ap (λ d. d.cap) decl) in
    stops_in (g.C.Clocked.netlist c.args.sim.now) (g.C.Clocked.stored c.args.sim.now) _ (map (asked m i) (range_with_len 0 n)) (rows_from m (decl_at old m) (i + 1)) _ (g.C.Clocked.stored c.loop-index.sim) (g.C.Clocked.stored c.read_row.new.sim) c.in-Err.stopped.net c.loop-index.invariant.read.way (rows-next m (decl_at old m) i lt ∙ ap (λ k. map (asked m i) (range_with_len 0 k) ++ rows_from m (decl_at old m) (i + 1)) (sym words)) (rw c.loop-index.invariant.netlist at c.in-Err.ensures.clocks)

pub loop-index-preserved : goal.loop-index-preserved
loop-index-preserved g c =
    let old = c.args.maps.now in
    let m = c.args.map in
    let i = c.loop-index.index in
    let decl = decl_read old c.decls.result.now m c.index-decls-map.result c.decls.ensures.decls c.requires.map c.index-decls-map.is in
    let n = length c.loop-index.row in
    let words : n ≡ row_length (decl_at old m) = c.loop-index.auto.row ∙ length-take-le c.row_length-words.result _ c.row_length-words.ensures.few ∙ c.row_length-words.ensures.words ∙ ap row_length decl in
    let lt : i < (decl_at old m).cap = omega (arith, c.loop-index-test.true, ap (λ d. d.cap) decl) in
    let room : m < length old.contents = omega (arith, c.decls.ensures.sound.beside, c.requires.map) in
    record {
      netlist = c.in-Ok.ensures.netlist ∙ c.loop-index.invariant.netlist;
      read = read_on (g.C.Clocked.netlist c.args.sim.now) (g.C.Clocked.stored c.args.sim.now) old m i (g.C.Clocked.stored c.loop-index.sim) c.loop-index.maps c.loop-index.invariant.read room n c.read_row.new.row (g.C.Clocked.stored c.read_row.new.sim) c.take_row.new.maps words lt c.read_row.auto.row (rw c.loop-index.invariant.netlist at c.in-Ok.ensures.shown) (rw c.loop-index.invariant.netlist at c.in-Ok.ensures.clocks) c.take_row.ensures;
    }
