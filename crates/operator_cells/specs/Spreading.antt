-- Numbers as the cells of their bytes.
use Rattle.std.specs.Prelude.{ℕ, ◌≡◌, ◌<◌, List, length, All, map as map_list}
use Rattle.cell_core.specs.xdp_machine.State.{PacketIn}
use Rattle.cell_core.specs.Cells.{CellView, IsRun}
use Rattle.operator_cells.specs.Making.{Grows}

-- More cells, and so many among them whose values in every run are these bytes.
pub record MakesBytes (old new : List CellView) (n : ℕ) (cs : List ℕ) (are : (ℕ → ℕ) → List ℕ) : Type 0 where
  pub grows : Grows old new
  pub count : length cs ≡ n
  pub there : All (λ c. c < length new) cs
  pub small : (packet : PacketIn) (v : ℕ → ℕ) → IsRun packet new v → All (λ c. v c < 256) cs
  pub values : (packet : PacketIn) (v : ℕ → ℕ) → IsRun packet new v → map_list v cs ≡ are v
