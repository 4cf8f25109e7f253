use Rattle.std.proofs.Common.{rules, ◌≡◌, ◌∙◌, ◌+◌, ℕ, List, true≢false, map, get_or, sym, ap, subst}
use Rattle.cell_core.specs.Cells.{CellView, cell_at, site_in}
use Rattle.cell_core.specs.Sites.{SiteView}
use Rattle.cell_core.specs.View.{cell_of, site_of}
use Rattle.cell_core.specs.declared.cell.Cell.{Cell}
use Rattle.row_plan.specs.Steps.{Keeps, OfWrites}
use Rattle.cell_core.proofs.ViewLaws.{cell_is}
use Rattle.row_plan.proofs.KeepingLemmas.{writes_next, writes_not}
use Rattle.row_plan.proofs.keeping.keep_writes.Goals as goal
use Rattle.row_plan.proofs.keeping.keep_writes.Goals.{then-reads_record, else-reads_record}

pub loop-number-preserved : goal.loop-number-preserved
loop-number-preserved c =
    let cells : List CellView = map cell_of c.args.cells.now in
    let sites : List SiteView = map site_of c.args.sites.now in
    let n : ℕ = c.loop-number.number in
    let item : c.index-cells-number.result ≡ get_or c.args.cells.now n c.index-cells-number.result = search rules in
    let here : cell_at cells n ≡ cell_of c.index-cells-number.result = cell_is c.args.cells.now n c.index-cells-number.result c.loop-number-test.true item in
    let op : site_in (cell_at cells n).op ≡ site_in (get_or c.args.cells.now n c.index-cells-number.result).op = ap (λ (v : CellView). site_in v.op) here ∙ ap (λ (x : Cell). site_in x.op) item in
    let P : List ℕ → Type 0 = λ kept. Keeps (OfWrites cells sites c.args.commit (n + 1)) c.args.kept.now kept in
    elim c.if-reads_record.branch [
      | then-reads_record w ↦
          let yes = c.reads_record.ensures.yes w.if-reads_record.true in
          subst P (sym w.kept-is) (writes_next cells sites c.args.commit n c.args.kept.now c.loop-number.kept w.keep.new.kept yes.0 (op ∙ yes.1) yes.2 c.loop-number.invariant w.keep.ensures)
      | else-reads_record w ↦
          subst P (sym w.kept-is) (writes_not cells sites c.args.commit n c.args.kept.now c.loop-number.kept
          (λ j at writes. absurd (true≢false (sym (c.reads_record.ensures.no j (sym op ∙ at) writes) ∙ w.if-reads_record.false))) c.loop-number.invariant)
    ]
