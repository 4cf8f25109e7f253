use Rattle.std.proofs.Common.{◌≡◌, ℕ, ◌<◌, map as map_list}
use Rattle.hazard_core.specs.cell_core.View.{cell_of}
use Rattle.frame_net.specs.declared.held.Kept.TheVariants.{Word}
use Rattle.pipe_parts.specs.PipeDraft.Keeping.{KeepsMore}
use Rattle.pipe_parts.proofs.pipe_draft.kept.keep_words.Given as goal

abbrev pub invariant-loop-word : goal.invariant-loop-word
invariant-loop-word l = KeepsMore (map_list cell_of l.cells) l.listed (λ x. (j : ℕ) × (j < l.word) × (x ≡ Word j)) l.word l.fn.kept.items l.kept.items
