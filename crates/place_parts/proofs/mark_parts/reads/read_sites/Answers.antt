use Rattle.std.proofs.Common.{rules, ◌∙◌, ℕ, Bool, sym}
use Rattle.hazard_core.specs.Marks.{has_read}
use Rattle.place_parts.specs.MarkParts.Places.{program_in, rows_in}
use Rattle.place_parts.proofs.MarkParts.Listing.{kept_more, kept_same}
use Rattle.place_parts.proofs.mark_parts.reads.read_sites.Goals as goal
use Rattle.place_parts.proofs.mark_parts.reads.read_sites.Goals.{then-has_read+in_ok-push, else-has_read}

pub loop-j-preserved : goal.loop-j-preserved
loop-j-preserved c =
    let q : ℕ → Bool = has_read (program_in c.args.layout.now) (rows_in c.args.layout.now) c.args.k in
    let n : ℕ = c.loop-j.j in
    elim c.if-has_read.branch [
      | then-has_read+in_ok-push w ↦ search (rules, kept_more q n c.loop-j.sites.items (sym c.has_read.ensures ∙ w.if-has_read.true) c.loop-j.invariant)
      | else-has_read w ↦ search (rules, kept_same q n c.loop-j.sites.items (sym c.has_read.ensures ∙ w.if-has_read.false) c.loop-j.invariant)
    ]
