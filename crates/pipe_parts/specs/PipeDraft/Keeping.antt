-- What the steps of keeping say.
use Rattle.std.specs.Prelude.{ℕ, ◌+◌, ◌≤◌, ◌⊎◌, List, length, Contains}
use Rattle.hazard_core.specs.cell_core.Cells.{CellView}
use Rattle.frame_net.specs.declared.held.Kept.{Kept}
use Rattle.pipe_parts.specs.PipeDraft.Sources.{IsTakenBy}

-- What is kept becomes more, by so many at most: what these cells take of something, and nothing else.
pub record KeepsMore (cells : List CellView) (listed : List ℕ) (A : Kept → Type 0) (most : ℕ) (old new : List Kept) : Type 0 where
  pub count : length new ≤ length old + most
  pub stays : (x : Kept) → Contains old x → Contains new x
  pub met : (x : Kept) → A x → IsTakenBy cells listed x → Contains new x
  pub some : (x : Kept) → Contains new x → Contains old x ⊎ (A x × IsTakenBy cells listed x)
