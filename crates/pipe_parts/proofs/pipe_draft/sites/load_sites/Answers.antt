use Rattle.std.proofs.Common.{rules, ◌∙◌, ℕ, Bool, sym}
use Rattle.hazard_core.specs.cell_core.Sites.{site_at}
use Rattle.hazard_core.specs.cell_core.View.{program_of}
use Rattle.overlay_net.specs.ValueNet.Words.{answers_number}
use Rattle.pipe_parts.proofs.PipeDraft.Listing.{kept_more, kept_same}
use Rattle.pipe_parts.proofs.pipe_draft.sites.load_sites.Goals as goal
use Rattle.pipe_parts.proofs.pipe_draft.sites.load_sites.Goals.{then-is_load+in_ok-push, else-is_load}

pub loop-j-preserved : goal.loop-j-preserved
loop-j-preserved c =
    let q : ℕ → Bool = λ k. answers_number (site_at (program_of c.args.program.now).sites k).act in
    let n : ℕ = c.loop-j.j in
    elim c.if-is_load.branch [
      | then-is_load+in_ok-push w ↦ search (rules, kept_more q n c.loop-j.sites.items (sym c.is_load.ensures ∙ w.if-is_load.true) c.loop-j.invariant)
      | else-is_load w ↦ search (rules, kept_same q n c.loop-j.sites.items (sym c.is_load.ensures ∙ w.if-is_load.false) c.loop-j.invariant)
    ]
