use Rattle.std.proofs.Common.{rules, ◌≡◌, ◌∙◌, ◌<◌, ◌≤◌, ◌+◌, List, ℕ, length, subst, sym, ap, map, get_or, slice_index, arith}
use Rattle.std.proofs.lemmas.List.{length-map}
use Rattle.cell_core.specs.Cells.{CellView, cell_at, bit, is_heavy}
use Rattle.cell_core.specs.Rows.{greatest}
use Rattle.cell_core.specs.View.{cell_of}
use Rattle.cell_core.proofs.ViewLaws.{cell_is}
use Rattle.row_plan.proofs.RowLemmas.{AreRowsSoFar, next_small, rows_next}
use Rattle.row_plan.proofs.rows.rows_of.Goals as goal

pub next_row-row-requires : goal.next_row-row-requires
next_row-row-requires c =
    let cells : List CellView = map cell_of c.args.cells.now in
    let n : ℕ = c.loop-cell.cell-index in
    let within : n < length cells = omega (arith, length-map c.args.cells.now cell_of, c.loop-cell-test.true) in
    let item : c.cell-item.result ≡ get_or c.args.cells.now n c.cell-item.result = search rules in
    let are : c.deref.result.now ≡ c.loop-cell.rows.items = search rules in
    let small : greatest (slice_index c.loop-cell.rows.items) (cell_at cells n).ins ≤ n = next_small cells n c.loop-cell.rows.items c.requires.formed within c.loop-cell.invariant in
    let P : List ℕ → Type 0 = λ rows. greatest (slice_index rows) c.cell-item.result.ins.items ≤ n in
    let Q : CellView → Type 0 = λ v. greatest (slice_index c.loop-cell.rows.items) v.ins ≤ n in
    let here : greatest (slice_index c.deref.result.now) c.cell-item.result.ins.items ≤ n = subst P (sym are) (subst Q (cell_is c.args.cells.now n c.cell-item.result c.loop-cell-test.true item) small) in
    omega (arith, here, c.requires.few, c.loop-cell-test.true)

pub loop-cell-preserved : goal.loop-cell-preserved
loop-cell-preserved c =
    let cells : List CellView = map cell_of c.args.cells.now in
    let n : ℕ = c.loop-cell.cell-index in
    let within : n < length cells = omega (arith, length-map c.args.cells.now cell_of, c.loop-cell-test.true) in
    let item : c.cell-item.result ≡ get_or c.args.cells.now n c.cell-item.result = search rules in
    let are : c.deref.result.now ≡ c.loop-cell.rows.items = search rules in
    let P : List ℕ → Type 0 = AreRowsSoFar cells (n + 1) in
    let F : List ℕ → CellView → ℕ = λ rows v. greatest (slice_index rows) v.ins + bit (is_heavy v.op) in
    let row : c.next_row-row.result ≡ F c.loop-cell.rows.items (cell_at cells n) =
    c.next_row-row.ensures ∙ ap (λ rows. F rows (cell_of c.cell-item.result)) are ∙ ap (F c.loop-cell.rows.items) (sym (cell_is c.args.cells.now n c.cell-item.result c.loop-cell-test.true item)) in
    subst P (sym c.in_ok-push.ensures.items) (rows_next cells n c.loop-cell.rows.items c.requires.formed within c.loop-cell.invariant c.next_row-row.result row)
