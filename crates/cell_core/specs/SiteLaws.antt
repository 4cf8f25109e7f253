-- What sites do, and what reads find, rests on the cells that they take.
use Rattle.std.specs.Prelude.{ℕ, ◌≡◌, ◌<◌, ◌≤◌, Some, List, take, All}
use Rattle.xdp_state.specs.xdp_maps.State.{MapState}
use Rattle.xdp_state.specs.xdp_machine.State.{PacketIn}
use Rattle.cell_core.specs.Cells.{site_in, CellView}
use Rattle.cell_core.specs.Sites.{SiteView, site_at, after, IsValue}
use Rattle.cell_core.specs.Formed.{IsBelow}

-- the cells below k have the same values
abbrev pub AreSame : ℕ → (ℕ → ℕ) → (ℕ → ℕ) → Type 0
AreSame k v w = (i : ℕ) → i < k → v i ≡ w i

-- Sites that take cells below k leave maps that these decide.
abbrev pub SitesKeep : Type 0
SitesKeep =
    (v w : ℕ → ℕ) (k : ℕ) (maps : MapState) (j : ℕ) (sites : List SiteView) → ((i : ℕ) → i < j → IsBelow k (site_at sites i)) → AreSame k v w
    → after v maps (take j sites) ≡ after w maps (take j sites)

-- A value of a cell rests on the cells below k, where the cell takes no other, and no site up to the one that it reads does.
abbrev pub ValuesKeep : Type 0
ValuesKeep =
    (packet : PacketIn) (maps : MapState) (sites : List SiteView) (v w : ℕ → ℕ) (k : ℕ) (c : CellView) (x : ℕ) → All (λ i. i < k) c.ins
    → ((j i : ℕ) → site_in c.op ≡ Some j → i ≤ j → IsBelow k (site_at sites i)) → AreSame k v w
    → IsValue packet maps sites v c x → IsValue packet maps sites w c x
