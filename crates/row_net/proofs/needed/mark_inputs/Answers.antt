use Rattle.std.proofs.Common.{◌≡◌, ◌∙◌, ◌-◌, ◌<◌, ℕ, List, length, map, sym, ap, arith}
use Rattle.std.proofs.lemmas.List.{length-map}
use Rattle.overlay_net.specs.cell_core.Cells.{CellView, cell_at}
use Rattle.overlay_net.specs.cell_core.View.{cell_of, program_of}
use Rattle.row_net.proofs.MarkLemmas.{closes_none, closes_next, closes_same, closes_all, marks_of}
use Rattle.row_net.proofs.needed.mark_inputs.Goals as goal
use Rattle.row_plan.proofs.cell_core_laws.ViewLaws.{cell_is}

pub loop-at-init : goal.loop-at-init
loop-at-init c =
    closes_none (program_of c.args.program.now) c.len-at.result c.args.flags.now (omega (arith, c.len-at.ensures, length-map c.args.program.now.cells.items cell_of)) (omega (arith, c.requires.count, length-map c.args.program.now.cells.items cell_of))

pub loop-at-preserved-then-flags-at : goal.loop-at-preserved-then-flags-at
loop-at-preserved-then-flags-at c =
    let items = c.args.program.now.cells.items in
    let cells : List CellView = map cell_of items in
    let n : ℕ = c.loop-at.at - 1 in
    let inside : n < length items = omega (arith, c.loop-at.invariant.within, c.loop-at-test.true, length-map items cell_of) in
    let here : cell_at cells n ≡ cell_of c.index.result.now = cell_is items n c.index.result.now inside c.index.ensures in
    closes_next (program_of c.args.program.now) c.loop-at.at c.args.flags.now c.loop-at.flags c.mark_all.new.flags c.requires.formed c.loop-at-test.true c.if-flags-at.true c.loop-at.invariant
    (marks_of c.deref.result.now (cell_at cells n).ins c.loop-at.flags c.mark_all.new.flags (c.deref.ensures ∙ sym (ap (λ (v : CellView). v.ins) here)) c.mark_all.ensures)

pub loop-at-preserved : goal.loop-at-preserved
loop-at-preserved c = closes_same (program_of c.args.program.now) c.loop-at.at c.args.flags.now c.loop-at.flags c.loop-at-test.true c.if-flags-at.false c.loop-at.invariant

pub returns : goal.returns
returns c = closes_all (program_of c.args.program.now) c.loop-at.at c.args.flags.now c.loop-at.flags (omega (arith, c.requires.count, length-map c.args.program.now.cells.items cell_of)) (omega (arith, c.loop-at-test.false)) c.loop-at.invariant
