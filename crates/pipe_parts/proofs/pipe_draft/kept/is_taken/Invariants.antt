use Rattle.std.specs.Prelude.{Some}
use Rattle.std.proofs.Common.{◌≡◌, ℕ, ◌<◌, get_or, map as map_list}
use Rattle.hazard_core.specs.cell_core.Cells.{cell_at}
use Rattle.hazard_core.specs.cell_core.View.{cell_of}
use Rattle.pipe_parts.specs.PipeDraft.Sources.{kept_for}
use Rattle.pipe_parts.proofs.pipe_draft.kept.is_taken.Given as goal

abbrev pub invariant-loop-number : goal.invariant-loop-number
invariant-loop-number l = (i d : ℕ) → i < l.number-index → ¬ (kept_for (cell_at (map_list cell_of l.cells) (get_or l.listed i d)).op ≡ Some l.what)
