use Rattle.std.proofs.Common.{rules, ◌∙◌, ℕ, Bool, sym}
use Rattle.hazard_core.specs.cell_core.View.{program_of}
use Rattle.stage_net.specs.SiteTable.Lists.{is_made_pointer}
use Rattle.stage_net.proofs.SiteTable.ListLemmas.{kept_more, kept_same}
use Rattle.stage_net.proofs.site_table.lists.made_pointers.Goals as goal
use Rattle.stage_net.proofs.site_table.lists.made_pointers.Goals.{then-is_made_pointer+in_ok-push, else-is_made_pointer}

pub loop-number-preserved : goal.loop-number-preserved
loop-number-preserved c =
    let q : ℕ → Bool = is_made_pointer (program_of c.args.program.now) c.args.plan.now c.args.needed.now c.args.points.now c.args.row in
    let n : ℕ = c.loop-number.number in
    elim c.if-is_made_pointer.branch [
      | then-is_made_pointer+in_ok-push w ↦ search (rules, kept_more q n c.loop-number.cells.items (sym c.is_made_pointer.ensures ∙ w.if-is_made_pointer.true) c.loop-number.invariant)
      | else-is_made_pointer w ↦ search (rules, kept_same q n c.loop-number.cells.items (sym c.is_made_pointer.ensures ∙ w.if-is_made_pointer.false) c.loop-number.invariant)
    ]
