use Rattle.std.proofs.Common.{◌≡◌, ◌+◌, ◌∷◌, ◌++◌, [], length, refl, sym, arith}
use Rattle.std.proofs.lemmas.List.{append-nil}
use Rattle.realization.specs.HostHistory.Rows.{words_of, slot_of}
use Rattle.realization.specs.HostHistory.Host.{row_writes, written}
use Rattle.realization.proofs.WordLaws.{length-words_of}
use Rattle.port_drive.proofs.HostClocks.{begins, goes_on, stops_in, last_part}
use Rattle.port_drive.proofs.LoadLemmas.{row_writes-append}
use Rattle.port_drive.proofs.loading.write_slot.Goals as goal

pub returns-in-Err-clause-clocks : goal.returns-in-Err-clause-clocks
returns-in-Err-clause-clocks g c =
    let d = g.C.Clocked.netlist c.args.sim.now in
    let s = g.C.Clocked.stored c.args.sim.now in
    let whole = row_writes c.args.map c.args.index 0 (slot_of (c.args.key.now, c.args.value.now)) in
    stops_in d s whole (written c.args.map c.args.index 0 1 ∷ []) _ whole s (g.C.Clocked.stored c.write_word.new.sim) c.in-Err.stopped.net (begins d s whole) refl c.in-Err.ensures.clocks

pub returns-in-Err-write_bytes-clause-clocks : goal.returns-in-Err-write_bytes-clause-clocks
returns-in-Err-write_bytes-clause-clocks g c =
    let d = g.C.Clocked.netlist c.args.sim.now in
    let s = g.C.Clocked.stored c.args.sim.now in
    let whole = row_writes c.args.map c.args.index 0 (slot_of (c.args.key.now, c.args.value.now)) in
    let first = goes_on d s whole (written c.args.map c.args.index 0 1 ∷ []) (row_writes c.args.map c.args.index 1 (words_of c.args.key.now ++ words_of c.args.value.now)) whole s (g.C.Clocked.stored c.write_word.new.sim) (begins d s whole) refl c.in-Ok.ensures.clocks in
    let parts = row_writes-append c.args.map c.args.index 1 (1 + length (words_of c.args.key.now)) (words_of c.args.key.now) (words_of c.args.value.now) refl in
    stops_in d s whole (row_writes c.args.map c.args.index 1 (words_of c.args.key.now)) _ _ (g.C.Clocked.stored c.write_word.new.sim) (g.C.Clocked.stored c.write_bytes.new.sim) c.in-Err-write_bytes.stopped.net first parts (rw c.in-Ok.ensures.netlist at c.in-Err-write_bytes.ensures.clocks)

pub returns-clause-clocks : goal.returns-clause-clocks
returns-clause-clocks g c =
    let d = g.C.Clocked.netlist c.args.sim.now in
    let s = g.C.Clocked.stored c.args.sim.now in
    let whole = row_writes c.args.map c.args.index 0 (slot_of (c.args.key.now, c.args.value.now)) in
    let first = goes_on d s whole (written c.args.map c.args.index 0 1 ∷ []) (row_writes c.args.map c.args.index 1 (words_of c.args.key.now ++ words_of c.args.value.now)) whole s (g.C.Clocked.stored c.write_word.new.sim) (begins d s whole) refl c.in-Ok.ensures.clocks in
    let behind : 1 + length (words_of c.args.key.now) ≡ 1 + c.div_ceil-behind.result = omega (arith, length-words_of c.args.key.now, c.div_ceil-behind.ensures) in
    let parts = row_writes-append c.args.map c.args.index 1 (1 + c.div_ceil-behind.result) (words_of c.args.key.now) (words_of c.args.value.now) behind in
    let second = goes_on d s whole (row_writes c.args.map c.args.index 1 (words_of c.args.key.now)) (row_writes c.args.map c.args.index (1 + c.div_ceil-behind.result) (words_of c.args.value.now)) _ (g.C.Clocked.stored c.write_word.new.sim) (g.C.Clocked.stored c.write_bytes.new.sim) first parts (rw c.in-Ok.ensures.netlist at c.in-Ok-write_bytes.ensures.clocks) in
    last_part d s whole c.write_bytes-2.result (row_writes c.args.map c.args.index (1 + c.div_ceil-behind.result) (words_of c.args.value.now)) _ (g.C.Clocked.stored c.write_bytes.new.sim) (g.C.Clocked.stored c.write_bytes-2.new.sim) second (sym (append-nil (row_writes c.args.map c.args.index (1 + c.div_ceil-behind.result) (words_of c.args.value.now)))) (rw (c.in-Ok-write_bytes.ensures.netlist, c.in-Ok.ensures.netlist) at c.write_bytes-2.ensures.clocks)
