use Rattle.std.proofs.Common.{rules, ◌≡◌, ◌∙◌, ◌+◌, ℕ, List, Bool, map, get_or, sym, ap, subst, arith}
use Rattle.std.proofs.lemmas.List.{length-map}
use Rattle.overlay_net.specs.cell_core.Cells.{CellView, cell_at, is_read}
use Rattle.overlay_net.specs.cell_core.declared.cell.Cell.{Cell}
use Rattle.overlay_net.specs.cell_core.View.{cell_of}
use Rattle.row_net.specs.Needed.{Marks}
use Rattle.row_net.proofs.MarkLemmas.{FirstReads, reads_start, reads_next, reads_not, reads_all}
use Rattle.row_net.proofs.needed.mark_reads.Goals as goal
use Rattle.row_net.proofs.needed.mark_reads.Goals.{then-is_read, else-is_read}
use Rattle.row_plan.proofs.cell_core_laws.ViewLaws.{cell_is}

pub loop-number-init : goal.loop-number-init
loop-number-init c = reads_start (map cell_of c.args.cells.now) c.args.flags.now

pub loop-number-preserved : goal.loop-number-preserved
loop-number-preserved c =
    let cells : List CellView = map cell_of c.args.cells.now in
    let n : ℕ = c.loop-number.number in
    let item : c.index-cells-number.result ≡ get_or c.args.cells.now n c.index-cells-number.result = search rules in
    let here : cell_at cells n ≡ cell_of c.index-cells-number.result = cell_is c.args.cells.now n c.index-cells-number.result c.loop-number-test.true item in
    let op : is_read (cell_at cells n).op ≡ c.is_read.result = ap (λ (v : CellView). is_read v.op) here ∙ ap (λ (x : Cell). is_read x.op) item ∙ sym c.is_read.ensures in
    let P : List Bool → Type 0 = λ flags. Marks (FirstReads cells (n + 1)) c.args.flags.now flags in
    elim c.if-is_read.branch [
      | then-is_read w ↦ subst P (sym w.flags-is) (reads_next cells n c.args.flags.now c.loop-number.flags w.mark.new.flags (op ∙ w.if-is_read.true) c.loop-number.invariant w.mark.ensures)
      | else-is_read w ↦ subst P (sym w.flags-is) (reads_not cells n c.args.flags.now c.loop-number.flags (op ∙ w.if-is_read.false) c.loop-number.invariant)
    ]

pub returns : goal.returns
returns c = reads_all (map cell_of c.args.cells.now) c.loop-number.number c.args.flags.now c.loop-number.flags (omega (arith, length-map c.args.cells.now cell_of, c.loop-number-test.false)) c.loop-number.invariant
