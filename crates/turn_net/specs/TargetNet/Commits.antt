-- The part that says on which map an operation commits.
use Rattle.std.specs.Prelude.{◌≡◌, ℕ, zero, suc, ◌<◌, ◌==◌, Bool, false, ◌&&◌, ◌||◌, Option, None, Some, List, length, slice_index, map as map_list}
use Rattle.std.proofs.Common.{get_or}
use Rattle.net_core.specs.Value.{bit as bit_word, Env}
use Rattle.block_core.specs.declared.name.Name.{Name}
use Rattle.block_core.specs.Blocks.{BlockTree}
use Rattle.block_core.specs.Parts.{Solve}
use Rattle.hazard_core.specs.cell_core.Cells.{bit, on}
use Rattle.hazard_core.specs.cell_core.Sites.{ProgramView, site_at}
use Rattle.cell_nets.specs.declared.operand.Operand.{Operand}
use Rattle.cell_nets.specs.declared.operand.Operand.TheVariants.{Known, Net}
use Rattle.cell_nets.specs.Operands.{number_in, AreFit}
use Rattle.cell_nets.specs.OperandBlocks.Wiring.{IsWiring, Offers}
use Rattle.turn_net.specs.declared.nets.RecordNets.{RecordNets}
use Rattle.turn_net.specs.Steps.{ShowsChosen}

-- ---- nets of one bit
abbrev pub bits_of : {N : Type 0} → List N → List (Operand N)
bits_of ns = map_list (λ n. Net n 1) ns

-- one of the first ones is on a map and commits
abbrev pub is_on : {N : Type 0} → Env N → List ℕ → List (Operand N) → ℕ → ℕ → Bool
is_on v maps chosen map i = (slice_index maps i == map) && on (number_in v (get_or chosen i (Known 0)))

abbrev pub any_on : {N : Type 0} → Env N → List ℕ → List (Operand N) → ℕ → ℕ → Bool
any_on v maps chosen map zero = false
any_on v maps chosen map (suc n) = is_on v maps chosen map n || any_on v maps chosen map n

-- the net of each map says so
abbrev pub AreOn : {N : Type 0} → Env N → List ℕ → List (Operand N) → List N → Type 0
AreOn v maps chosen ns = (m : ℕ) (d : _) → m < length ns → (v.net (get_or ns m d)).value ≡ bit (any_on v maps chosen m (length chosen))

-- ---- by the site that commits: it is one of the records, whose maps are these
abbrev pub IsRecord : {N : Type 0} → List (RecordNets N) → Option ℕ → Type 0
IsRecord rs None = Unit {0}
IsRecord rs (Some j) = (k : ℕ) × (k < length rs) × ((d : RecordNets _) → (get_or rs k d).number ≡ j)

pub record AreMaps {N : Type 0} (p : ProgramView) (maps : List ℕ) (rs : List (RecordNets N)) : Type 0 where
  pub count : length maps ≡ length rs
  pub each : (k : ℕ) (d : RecordNets N) → k < length rs → slice_index maps k ≡ (site_at p.sites (get_or rs k d).number).map

abbrev pub commits_on : ProgramView → Option ℕ → ℕ → Bool
commits_on p None m = false
commits_on p (Some j) m = (site_at p.sites j).map == m

-- ---- The part: wires alone. It gives a net of each of so many maps, which says whether the site that commits is on that map.
pub record IsCommits {P : Type 0} (part : P) (count : ℕ) (maps : List ℕ) (chosen : List (Operand (Name P))) (commits : List (Name P)) (b : BlockTree (Name P)) : Type 0 where
  pub wiring : IsWiring part chosen b
  pub offers : Offers part chosen b (bits_of commits)
  pub many : length commits ≡ count
  pub shows : (v : Env (Name P)) (p : ProgramView) (site : Option ℕ) (rs : List (RecordNets (Name P))) → AreFit v chosen → Solve v part 0 b.wires → AreMaps p maps rs → IsRecord rs site → ShowsChosen v site rs chosen
      → (m : ℕ) (d : Name P) → m < length commits → v.net (get_or commits m d) ≡ bit_word (commits_on p site m)
