use Rattle.std.proofs.Common.{rules, ◌≡◌, ℕ, List, map, get_or, slice_index, sym, ap, subst}
use Rattle.cell_core.specs.Cells.{CellView, cell_at}
use Rattle.cell_core.specs.View.{cell_of}
use Rattle.row_plan.specs.Steps.{Keeps, OfAll}
use Rattle.cell_core.proofs.ViewLaws.{cell_is}
use Rattle.row_plan.proofs.KeepingLemmas.{inputs_next}
use Rattle.row_plan.proofs.keeping.keep_inputs.Goals as goal

pub loop-number-preserved : goal.loop-number-preserved
loop-number-preserved c =
    let cells : List CellView = map cell_of c.args.cells.now in
    let n : ℕ = c.loop-number.number in
    let item : c.index-cells-number.result ≡ get_or c.args.cells.now n c.index-cells-number.result = search rules in
    let here : cell_at cells n ≡ cell_of c.index-cells-number.result = cell_is c.args.cells.now n c.index-cells-number.result c.loop-number-test.true item in
    let ins : c.deref.result.now ≡ (cell_at cells n).ins = search (rules, ap (λ (v : CellView). v.ins) (sym here)) in
    let P : List ℕ → Type 0 = λ xs. Keeps (OfAll xs (slice_index c.args.rows.now n)) c.loop-number.kept c.keep_all.new.kept in
    let Q : ℕ → Type 0 = λ row. Keeps (OfAll c.deref.result.now row) c.loop-number.kept c.keep_all.new.kept in
    inputs_next cells c.args.rows.now n c.args.kept.now c.loop-number.kept c.keep_all.new.kept c.loop-number.invariant (subst P ins (subst Q c.row_in-row.ensures c.keep_all.ensures))
