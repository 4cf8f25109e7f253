-- What the code of a node does: between nodes the edges that are on lead to where the run is, and hold what its machine holds.
use Rattle.std.specs.Prelude.{ℕ, ◌≡◌, ◌≢◌, ◌+◌, ◌<◌, ◌≤◌, ◌++◌, true, Option, Some, None, List, [], ◌∷◌, length, slice_index, get_or, take, All, Contains}
use Rattle.cell_core.specs.xdp_maps.State.{MapState}
use Rattle.cell_core.specs.xdp_maps.Operations.{Operation}
use Rattle.cell_core.specs.xdp_machine.Arithmetic.{low}
use Rattle.cell_core.specs.xdp_machine.State.{Machine, PacketIn}
use Rattle.cell_core.specs.xdp_machine.Runs.{Leaves}
use Rattle.cell_core.specs.xdp_machine.Touched.{operation_at}
use Rattle.kind_core.specs.declared.kind.Kinds.{Kinds}
use Rattle.cell_core.specs.Cells.{CellView, IsRun, cell_at, site_in, bits_from, bit, on}
use Rattle.cell_core.specs.Sites.{SiteView, site_at, operation_on, after, read_on}
use Rattle.cell_core.specs.Formed.{FitsMap, IsBelow}
use Rattle.operator_cells.specs.Making.{GrowsWith}
use Rattle.operator_cells.specs.declared.held_cells.machine_cells.RegisterCells.{RegisterCells}
use Rattle.operator_cells.specs.declared.held_cells.way.Way.{Way}
use Rattle.operator_cells.specs.declared.held_cells.way.Exit.{Exit}
use Rattle.operator_cells.specs.HeldCells.Paths.{GraphView, Stage, At, Over, Nowhere, node_at, visit, stands_at, maps_in}
use Rattle.operator_cells.specs.HeldCells.RegisterCells.{PointerView, AreInside, number_of, IsThere}
use Rattle.operator_cells.specs.HeldCells.Carrying.{IsKnown}

-- an edge that is on leads to where the run stands
abbrev pub Leads : GraphView → PacketIn → (ℕ → ℕ) → List PointerView → Stage → Way → Type 0
Leads g packet v ps s e = on (v e.bit) ≡ true → (m : Machine) × (s ≡ At e.to m) × IsKnown g.decls packet v ps e.to e.kinds e.held m

-- the cells of an end hold what the packet leaves there
pub record IsLeft (packet : PacketIn) (v : ℕ → ℕ) (x : Exit) (e : Leaves) : Type 0 where
  pub verdict : e.verdict ≡ low 32 (number_of v x.verdict (slice_index x.held.registers 0))
  pub target : e.target ≡ v x.held.target
  pub length_is : length e.frame ≡ length packet.frame
  pub window : (i : ℕ) → i < 256 → slice_index e.frame i ≡ v (slice_index x.held.window i)
  pub rest : (i : ℕ) → 256 ≤ i → slice_index e.frame i ≡ slice_index packet.frame i

-- an end that is on is that of the run
abbrev pub Closes : PacketIn → (ℕ → ℕ) → Stage → Exit → Type 0
Closes packet v s x = on (v x.guard) ≡ true → (e : Leaves) × (s ≡ Over e) × IsLeft packet v x e

-- Between nodes, before node k: bits are bits; the run stands at this node or a later one, at its place; edges that are on lead to where the
-- run stands, and where it stands before a step an edge that is on leads there; ends likewise.
pub record IsGood (g : GraphView) (packet : PacketIn) (v : ℕ → ℕ) (ps : List PointerView) (k : ℕ) (ways : List Way) (exits : List Exit) (s : Stage) : Type 0 where
  pub bits : All (λ e. v e.bit < 2) ways
  pub ahead : (n : ℕ) (m : Machine) → s ≡ At n m → (k ≤ n) × (n < length g.nodes)
  pub placed : (n : ℕ) (m : Machine) → s ≡ At n m → m.place ≡ (node_at g.nodes n).place
  pub each : All (λ e. k ≤ e.to → Leads g packet v ps s e) ways
  pub some : (n : ℕ) (m : Machine) → s ≡ At n m → (e : Way) × Contains ways e × (e.to ≡ n) × (on (v e.bit) ≡ true)
  pub ends : All (Closes packet v s) exits
  pub ended : (e : Leaves) → s ≡ Over e → (x : Exit) × Contains exits x × (on (v x.guard) ≡ true)
  pub somewhere : s ≢ Nowhere

-- the edges that lead to a node as one: the guard is 1 exactly where the run stands there, its machine is at the place of the node, and the
-- cells hold what it holds
pub record IsHere (g : GraphView) (packet : PacketIn) (v : ℕ → ℕ) (ps : List PointerView) (k guard : ℕ) (held : RegisterCells) (s : Stage) : Type 0 where
  pub guard_is : v guard ≡ bit (stands_at k s)
  pub placed : (m : Machine) → s ≡ At k m → m.place ≡ (node_at g.nodes k).place
  pub known : (m : Machine) → s ≡ At k m → IsKnown g.decls packet v ps k (node_at g.nodes k).kinds held m

-- edges and ends name cells that are there
pub record AreMade (g : GraphView) (cells : List CellView) (ps : List PointerView) (ways : List Way) (exits : List Exit) : Type 0 where
  pub each_way : All (λ e. (e.bit < length cells) × AreInside g.decls (length cells) ps e.held e.kinds) ways
  pub each_exit : All (λ x. (x.guard < length cells) × (x.held.target < length cells) × IsThere (length cells) x.verdict (slice_index x.held.registers 0)
      × ((i : ℕ) → i < 256 → slice_index x.held.window i < length cells)) exits

-- The reads of these sites, where their guards are on, answer as the maps after the operations before them do.
abbrev pub AreRead : MapState → List CellView → List SiteView → (ℕ → ℕ) → Type 0
AreRead maps cells sites v = (c j : ℕ) → c < length cells → j < length sites → site_in (cell_at cells c).op ≡ Some j → on (v (site_at sites j).guard) ≡ true
    → v c ≡ bits_from (read_on v (after v maps (take j sites)) (site_at sites j) (cell_at cells c).op) (cell_at cells c).from (cell_at cells c).width

-- A cell that a node makes reads a site of this node alone, and stands after the cells that this one and those before it take.
abbrev pub ReadsOwn : List SiteView → List SiteView → ℕ → ℕ → Type 0
ReadsOwn sites sites2 c j = (length sites ≤ j) × (j < length sites2) × ((i : ℕ) → length sites ≤ i → i ≤ j → IsBelow c (site_at sites2 i))

-- The sites of a node do the operation of its step: one site, or none where it does none.
abbrev pub DoAs : (ℕ → ℕ) → MapState → List SiteView → Option (ℕ × Operation) → Type 0
DoAs v maps [] op = op ≡ None
DoAs v maps (s ∷ []) op = op ≡ Some (s.map, operation_on v maps s)
DoAs v maps (s ∷ r ∷ more) op = ⊥

-- What the code of node k does behind its guard: cells, pointers, sites, edges and ends are added; and for all values of the cells and every
-- run, where things are good before the node they are good after it, and the operations of the sites leave the maps of the run.
pub record Steps (g : GraphView) (k guard : ℕ) (held : RegisterCells) (cells cells2 : List CellView) (ps ps2 : List PointerView) (sites sites2 : List SiteView) (ways ways2 : List Way) (exits exits2 : List Exit) : Type 0 where
  pub grows : GrowsWith (ReadsOwn sites sites2) cells cells2
  pub more_pointers : List PointerView
  pub pointers_are : ps2 ≡ ps ++ more_pointers
  pub more : List SiteView
  pub sites_are : sites2 ≡ sites ++ more
  pub own : All (λ s. (s.node ≡ k) × (s.guard ≡ guard)) more
  pub fits : All (FitsMap g.decls) more
  pub below : All (IsBelow (length cells2)) more
  pub made : AreMade g cells2 ps2 ways2 exits2
  pub step : (packet : PacketIn) (maps : MapState) (v : ℕ → ℕ) (s : Stage) → IsRun packet cells2 v → AreRead maps cells2 sites2 v
      → after v maps sites ≡ maps_in maps s → IsHere g packet v ps k guard held s → IsGood g packet v ps k ways exits s
      → IsGood g packet v ps2 (k + 1) ways2 exits2 (visit g k s) × (after v maps sites2 ≡ maps_in maps (visit g k s))
  -- where the run stands at the node its sites do what the step does
  pub does : (packet : PacketIn) (maps : MapState) (v : ℕ → ℕ) (m : Machine) → IsRun packet cells2 v → AreRead maps cells2 sites2 v
      → after v maps sites ≡ m.maps → IsHere g packet v ps k guard held (At k m) → DoAs v m.maps more (operation_at g.code m)
