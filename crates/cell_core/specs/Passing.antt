-- How far an evaluation has come. No caller's clause cites this.
use Rattle.std.specs.Prelude.{ℕ, ◌≡◌, ◌<◌, ◌≤◌, List, length, take}
use Rattle.xdp_state.specs.xdp_maps.State.{MapState}
use Rattle.xdp_state.specs.xdp_machine.State.{PacketIn}
use Rattle.cell_core.specs.Cells.{cell_at, value_in}
use Rattle.cell_core.specs.Sites.{ProgramView, site_at, after, IsValue}
use Rattle.cell_core.specs.Formed.{IsBelow}

-- the values of the first k cells, and the maps after the first sites
pub record IsPassed (packet : PacketIn) (maps : MapState) (p : ProgramView) (k : ℕ) (vs : List ℕ) (own : MapState) (done : ℕ) : Type 0 where
  pub count : length vs ≡ k
  pub range : done ≤ length p.sites
  pub below : (i : ℕ) → i < done → IsBelow k (site_at p.sites i)
  pub own_is : own ≡ after (value_in vs) maps (take done p.sites)
  pub each : (i : ℕ) → i < k → IsValue packet maps p.sites (value_in vs) (cell_at p.cells i) (value_in vs i)
