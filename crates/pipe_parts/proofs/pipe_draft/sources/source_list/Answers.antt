use Rattle.std.proofs.Common.{rules, ◌∙◌, ℕ, Bool, sym}
use Rattle.hazard_core.specs.cell_core.View.{program_of}
use Rattle.pipe_parts.specs.PipeDraft.Sources.{is_source}
use Rattle.pipe_parts.proofs.PipeDraft.Listing.{kept_more, kept_same}
use Rattle.pipe_parts.proofs.pipe_draft.sources.source_list.Goals as goal
use Rattle.pipe_parts.proofs.pipe_draft.sources.source_list.Goals.{then-is_source+in_ok-push, else-is_source}

pub loop-number-preserved : goal.loop-number-preserved
loop-number-preserved c =
    let q : ℕ → Bool = is_source (program_of c.args.program.now) c.args.needed.now in
    let n : ℕ = c.loop-number.number in
    elim c.if-is_source.branch [
      | then-is_source+in_ok-push w ↦ search (rules, kept_more q n c.loop-number.cells.items (sym c.is_source.ensures ∙ w.if-is_source.true) c.loop-number.invariant)
      | else-is_source w ↦ search (rules, kept_same q n c.loop-number.cells.items (sym c.is_source.ensures ∙ w.if-is_source.false) c.loop-number.invariant)
    ]
