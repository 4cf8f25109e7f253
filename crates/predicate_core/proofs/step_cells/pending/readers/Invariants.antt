use Rattle.std.proofs.Common.{◌≡◌, ℕ, ◌<◌, ◌≤◌, Some, length}
use Rattle.std.specs.Prelude.{All, Contains}
use Rattle.cell_core.specs.Cells.{cell_at, site_in}
use Rattle.operator_cells.specs.Making.{seen}
use Rattle.predicate_core.proofs.step_cells.pending.readers.Given as goal

abbrev pub invariant-loop-i : goal.invariant-loop-i
invariant-loop-i l = (l.first ≤ l.i) × All (λ k. k < length (seen l.cells)) l.all.items
    × ((k : ℕ) → l.first ≤ k → k < l.i → site_in (cell_at (seen l.cells) k).op ≡ Some l.number → Contains l.all.items k)
    × All (λ k. (l.first ≤ k) × (site_in (cell_at (seen l.cells) k).op ≡ Some l.number)) l.all.items
