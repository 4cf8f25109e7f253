use Rattle.std.proofs.Common.{ℕ, map, refl, slice_index}
use Rattle.std.proofs.lemmas.List.{get_or_default}
use Rattle.overlay_net.specs.cell_core.View.{cell_of}
use Rattle.cell_nets.specs.Wires.{wires_of}
use Rattle.row_net.proofs.RowLemmas.{row_more, inputs_in}
use Rattle.row_net.proofs.row.row_nets.Goals as goal

pub make-requires-clause-inputs : goal.make-requires-clause-inputs
make-requires-clause-inputs g c =
    let i : ℕ = c.loop-number.number-index in
    inputs_in c.args.part (map cell_of c.args.cells.now) c.args.made.now i (slice_index c.args.made.now i) (wires_of c.args.wires.now.items) (wires_of c.loop-number.wires.items) c.args.table.now.items c.loop-number.table.items c.loop-number-test.true refl c.requires.ready
    c.loop-number.invariant

pub loop-number-preserved : goal.loop-number-preserved
loop-number-preserved g c =
    let i : ℕ = c.loop-number.number-index in
    let k : ℕ = slice_index c.args.made.now i in
    row_more c.args.part (map cell_of c.args.cells.now) c.args.made.now i k (wires_of c.args.wires.now.items) (wires_of c.loop-number.wires.items) (wires_of c.make.new.wires.items) c.args.table.now.items c.loop-number.table.items c.make.new.table.items c.loop-number-test.true
    (get_or_default c.args.made.now i 0 k c.loop-number-test.true) c.loop-number.invariant c.in_ok-make.ensures
