use Rattle.std.proofs.Common.{rules, ◌∙◌, ℕ, slice_index, sym}
use Rattle.row_plan.proofs.RowLemmas.{live_more, live_same}
use Rattle.row_plan.proofs.row_plan.live_at.Goals as goal
use Rattle.row_plan.proofs.row_plan.live_at.Goals.{then-is_live+in_ok-push, else-is_live}

pub loop-number-preserved : goal.loop-number-preserved
loop-number-preserved c =
    let row : ℕ → ℕ = slice_index c.args.rows.now in
    let kept : ℕ → ℕ = slice_index c.args.kept.now in
    let n : ℕ = c.loop-number.number in
    elim c.if-is_live.branch [
      | then-is_live+in_ok-push w ↦ search (rules, live_more row kept c.args.at n c.loop-number.cells.items (sym c.is_live.ensures ∙ w.if-is_live.true) c.loop-number.invariant)
      | else-is_live w ↦ search (rules, live_same row kept c.args.at n c.loop-number.cells.items (sym c.is_live.ensures ∙ w.if-is_live.false) c.loop-number.invariant)
    ]
