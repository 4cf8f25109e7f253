use Rattle.std.proofs.Common.{rules, ◌∙◌, ℕ, Bool, sym}
use Rattle.hazard_core.specs.cell_core.Sites.{site_at, records}
use Rattle.hazard_core.specs.cell_core.View.{program_of}
use Rattle.pipe_parts.proofs.PipeDraft.Listing.{kept_more, kept_same}
use Rattle.pipe_parts.proofs.pipe_draft.sites.record_sites.Goals as goal
use Rattle.pipe_parts.proofs.pipe_draft.sites.record_sites.Goals.{then-is_record+in_ok-push, else-is_record}

pub loop-j-preserved : goal.loop-j-preserved
loop-j-preserved c =
    let q : ℕ → Bool = λ k. records (site_at (program_of c.args.program.now).sites k).act in
    let n : ℕ = c.loop-j.j in
    elim c.if-is_record.branch [
      | then-is_record+in_ok-push w ↦ search (rules, kept_more q n c.loop-j.sites.items (sym c.is_record.ensures ∙ w.if-is_record.true) c.loop-j.invariant)
      | else-is_record w ↦ search (rules, kept_same q n c.loop-j.sites.items (sym c.is_record.ensures ∙ w.if-is_record.false) c.loop-j.invariant)
    ]
