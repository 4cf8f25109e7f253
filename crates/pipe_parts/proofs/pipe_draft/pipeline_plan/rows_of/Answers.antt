use Rattle.std.proofs.Common.{◌≡◌, ◌∙◌, length, arith}
use Rattle.std.proofs.lemmas.List.{ext_get_or}
use Rattle.pipe_parts.proofs.pipe_draft.pipeline_plan.rows_of.Goals as goal

pub returns : goal.returns
returns c =
    let inv = c.loop-cell.invariant in
    let end : c.loop-cell.cell ≡ length c.args.plan.now.rows = omega (arith, c.len-cell-end.ensures, c.requires.count, c.requires.few) in
    ext_get_or 0 c.loop-cell.rows.items c.args.plan.now.rows (inv.count ∙ end) (λ i lt. inv.each i 0 (omega (arith, lt, inv.count)))
