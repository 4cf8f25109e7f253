use Rattle.std.proofs.Common.{◌≡◌, ◌+◌, ◌<◌, ◌≤◌, get_or, [], length, drop, ap, ◌∙◌, arith}
use Rattle.std.specs.Option.{option_copied}
use Rattle.xdp_maps.specs.State.{decl_at, contents_at}
use Rattle.realization.specs.HostHistory.Rows.{rows_of}
use Rattle.realization.specs.HostHistory.Host.{map_writes, row_writes}
use Rattle.port_drive.specs.Reading.{row_with}
use Rattle.port_drive.proofs.HostClocks.{goes_on, stops_in, ends}
use Rattle.port_drive.proofs.LoadLemmas.{pair_is, row_of_pair, short_value, row-step, rows-end, length-rows, decl_read}
use Rattle.port_drive.proofs.loading.load_map.Goals as goal

pub write_row-requires-clause-value : goal.write_row-requires-clause-value
write_row-requires-clause-value g c =
    let s = c.args.maps.now in
    let m = c.args.map in
    short_value (decl_at s m) (contents_at s m) c.loop-index.index c.entry-value.new.key (option_copied c.entry-value.result) (c.decls.ensures.sound.limits m c.requires.map) (c.decls.ensures.sound.over m c.requires.map) (c.pair_laws.ensures (decl_at s m) (contents_at s m)).found (pair_is (decl_at s m).kind (contents_at s m) c.loop-index.index c.entry-value.new.key c.entry-value.result c.entry-value.ensures.pair)

pub returns-in-Err-clause-clocks : goal.returns-in-Err-clause-clocks
returns-in-Err-clause-clocks g c =
    let s = c.args.maps.now in
    let m = c.args.map in
    let i = c.loop-index.index in
    let rows = rows_of (decl_at s m) (contents_at s m) in
    let decl = decl_read s c.decls.result.now m c.index-decls-map.result c.decls.ensures.decls c.requires.map c.index-decls-map.is in
    let lt : i < (decl_at s m).cap = omega (arith, c.loop-index-test.true, ap (λ d. d.cap) decl) in
    let filled = (c.decls.ensures.sound.over m c.requires.map).filled in
    let row = row_with c.index-decls-map.result.kind c.entry-value.new.key (option_copied c.entry-value.result) in
    let is : get_or rows i [] ≡ row = row_of_pair (decl_at s m) (contents_at s m) i c.entry-value.new.key c.entry-value.result c.index-decls-map.result.kind (ap (λ d. d.kind) decl) filled lt c.entry-value.ensures.pair in
    let within : i < length rows = omega (arith, length-rows (decl_at s m).kind (decl_at s m) (contents_at s m) filled, lt) in
    stops_in (g.C.Clocked.netlist c.args.sim.now) (g.C.Clocked.stored c.args.sim.now) _ (row_writes m i 0 row) (map_writes m (i + 1) (drop (i + 1) rows)) _ (g.C.Clocked.stored c.loop-index.sim) (g.C.Clocked.stored c.write_row.new.sim) c.in-Err.stopped.net c.loop-index.invariant.way (row-step m i rows row within is) (rw c.loop-index.invariant.netlist at c.in-Err.ensures.clocks)

pub loop-index-preserved : goal.loop-index-preserved
loop-index-preserved g c =
    let s = c.args.maps.now in
    let m = c.args.map in
    let i = c.loop-index.index in
    let rows = rows_of (decl_at s m) (contents_at s m) in
    let decl = decl_read s c.decls.result.now m c.index-decls-map.result c.decls.ensures.decls c.requires.map c.index-decls-map.is in
    let lt : i < (decl_at s m).cap = omega (arith, c.loop-index-test.true, ap (λ d. d.cap) decl) in
    let filled = (c.decls.ensures.sound.over m c.requires.map).filled in
    let row = row_with c.index-decls-map.result.kind c.entry-value.new.key (option_copied c.entry-value.result) in
    let is : get_or rows i [] ≡ row = row_of_pair (decl_at s m) (contents_at s m) i c.entry-value.new.key c.entry-value.result c.index-decls-map.result.kind (ap (λ d. d.kind) decl) filled lt c.entry-value.ensures.pair in
    let within : i < length rows = omega (arith, length-rows (decl_at s m).kind (decl_at s m) (contents_at s m) filled, lt) in
    record {
      netlist = c.in-Ok.ensures.netlist ∙ c.loop-index.invariant.netlist;
      way = goes_on (g.C.Clocked.netlist c.args.sim.now) (g.C.Clocked.stored c.args.sim.now) _ (row_writes m i 0 row) (map_writes m (i + 1) (drop (i + 1) rows)) _ (g.C.Clocked.stored c.loop-index.sim) (g.C.Clocked.stored c.write_row.new.sim) c.loop-index.invariant.way (row-step m i rows row within is) (rw c.loop-index.invariant.netlist at c.in-Ok.ensures.clocks);
    }

pub returns-clause-clocks : goal.returns-clause-clocks
returns-clause-clocks g c =
    let s = c.args.maps.now in
    let m = c.args.map in
    let rows = rows_of (decl_at s m) (contents_at s m) in
    let decl = decl_read s c.decls.result.now m c.index-decls-map.result c.decls.ensures.decls c.requires.map c.index-decls-map.is in
    let filled = (c.decls.ensures.sound.over m c.requires.map).filled in
    let past : length rows ≤ c.loop-index.index = omega (arith, length-rows (decl_at s m).kind (decl_at s m) (contents_at s m) filled, c.loop-index-test.false, ap (λ d. d.cap) decl) in
    ends (g.C.Clocked.netlist c.args.sim.now) (g.C.Clocked.stored c.args.sim.now) _ _ (g.C.Clocked.stored c.loop-index.sim) c.loop-index.invariant.way (rows-end m c.loop-index.index rows past)
