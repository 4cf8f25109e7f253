use Rattle.std.proofs.Common.{rules, ◌∙◌, ℕ, Bool, sym}
use Rattle.hazard_core.specs.cell_core.View.{program_of}
use Rattle.stage_net.specs.SiteTable.Lists.{is_held}
use Rattle.stage_net.proofs.SiteTable.ListLemmas.{kept_more, kept_same}
use Rattle.stage_net.proofs.site_table.lists.held.Goals as goal
use Rattle.stage_net.proofs.site_table.lists.held.Goals.{then-is_held+in_ok-push, else-is_held}

pub loop-number-preserved : goal.loop-number-preserved
loop-number-preserved c =
    let q : ℕ → Bool = is_held (program_of c.args.program.now) c.args.plan.now c.args.needed.now c.args.parts.now c.args.row in
    let n : ℕ = c.loop-number.number in
    elim c.if-is_held.branch [
      | then-is_held+in_ok-push w ↦ search (rules, kept_more q n c.loop-number.cells.items (sym c.is_held.ensures ∙ w.if-is_held.true) c.loop-number.invariant)
      | else-is_held w ↦ search (rules, kept_same q n c.loop-number.cells.items (sym c.is_held.ensures ∙ w.if-is_held.false) c.loop-number.invariant)
    ]
