use Rattle.std.proofs.Common.{rules, ◌∙◌, ℕ, Bool, sym}
use Rattle.overlay_net.specs.cell_core.View.{program_of}
use Rattle.row_net.specs.Lists.{is_made}
use Rattle.row_net.proofs.ListLemmas.{kept_more, kept_same}
use Rattle.row_net.proofs.lists.made.Goals as goal
use Rattle.row_net.proofs.lists.made.Goals.{then-is_made+in_ok-push, else-is_made}

pub loop-number-preserved : goal.loop-number-preserved
loop-number-preserved c =
    let q : ℕ → Bool = is_made (program_of c.args.program.now) c.args.plan.now c.args.needed.now c.args.row in
    let n : ℕ = c.loop-number.number in
    elim c.if-is_made.branch [
      | then-is_made+in_ok-push w ↦ search (rules, kept_more q n c.loop-number.cells.items (sym c.is_made.ensures ∙ w.if-is_made.true) c.loop-number.invariant)
      | else-is_made w ↦ search (rules, kept_same q n c.loop-number.cells.items (sym c.is_made.ensures ∙ w.if-is_made.false) c.loop-number.invariant)
    ]
