-- The law of cells: what a program's cells say of the run of a packet.
use Rattle.std.specs.Prelude.{ℕ, ◌≡◌, ◌+◌, ◌^◌, ◌<◌, ◌≤◌, ◌==◌, nat_lt, true, Some, List, length, take, All}
use Rattle.std.proofs.Common.{get_or, filter}
use Rattle.std.specs.List.{AllPairs}
use Rattle.cell_core.specs.xdp_maps.State.{MapState, IsSound}
use Rattle.cell_core.specs.xdp_machine.State.{Machine, PacketIn}
use Rattle.cell_core.specs.xdp_machine.Touched as machine
use Rattle.cell_core.specs.declared.program.Node.{Node}
use Rattle.cell_core.specs.Cells.{IsRun, cell_at, site_in, bits_from, bit, on}
use Rattle.cell_core.specs.Sites.{SiteView, ProgramView, site_at, after, read_on, IsCellRun, leaves, touched}
use Rattle.cell_core.specs.Formed.{AreFormed, AreSited, IsBelow}
use Rattle.operator_cells.specs.HeldCells.Paths.{GraphView, At, node_at, before, on_path, maps_in}
use Rattle.operator_cells.specs.declared.held_cells.machine_cells.RegisterCells.{RegisterCells}
use Rattle.operator_cells.specs.HeldCells.RegisterCells.{PointerView, AreHeld}
use Rattle.operator_cells.specs.HeldCells.Steps.{DoAs}
use Rattle.operator_cells.specs.HeldCells.Pointing.{AccessesLookUp, AccessesStay}
use Rattle.operator_cells.specs.HeldCells.Reading.{ReadsAreMade, ReadsWait}

abbrev pub no_made : Node
no_made = record { place = 0; guard = 0; first = 0; end = 0 }

abbrev pub made_at : List Node → ℕ → Node
made_at nodes k = get_or nodes k no_made

-- a packet as it can come in
pub record IsPacket (packet : PacketIn) : Type 0 where
  pub some : 1 ≤ length packet.frame
  pub short : length packet.frame ≤ 9216
  pub bytes : All (λ b. b < 256) packet.frame
  pub ifindex : packet.ifindex < 2 ^ 32
  pub time : packet.time < 2 ^ 64

-- The reads of the nodes below k, where their guards are on, answer as the maps after the packet's own earlier operations do. Of all
-- other reads nothing is said: they may have any values.
abbrev pub AreAnswered : MapState → ProgramView → (ℕ → ℕ) → ℕ → Type 0
AreAnswered maps p v k = (c j : ℕ) → c < length p.cells → site_in (cell_at p.cells c).op ≡ Some j → (site_at p.sites j).node < k → on (v (site_at p.sites j).guard) ≡ true
    → v c ≡ bits_from (read_on v (after v maps (take j p.sites)) (site_at p.sites j) (cell_at p.cells c).op) (cell_at p.cells c).from (cell_at p.cells c).width

-- the sites of the nodes below k, and those of node k
abbrev pub sites_below : ℕ → List SiteView → List SiteView
sites_below k sites = filter (λ s. nat_lt s.node k) sites

abbrev pub sites_at : ℕ → List SiteView → List SiteView
sites_at k sites = filter (λ s. s.node == k) sites

-- As far as node k the cells are right: guards, off the path too, are 1 exactly on it, and on the path cells hold what the machine holds,
-- sites do what its steps do, and their operations leave its maps.
pub record IsRight (g : GraphView) (p : ProgramView) (ps : List PointerView) (held : ℕ → RegisterCells) (packet : PacketIn) (maps : MapState) (v : ℕ → ℕ) (k : ℕ) : Type 0 where
  pub guards : (j : ℕ) → j ≤ k → j < length g.nodes → v (made_at p.nodes j).guard ≡ bit (on_path g packet maps j)
  pub holds : (j : ℕ) (m : Machine) → j ≤ k → j < length g.nodes → before g packet maps j ≡ At j m → AreHeld g.decls packet v ps (held j) (node_at g.nodes j).kinds m
  pub sites : (j : ℕ) (m : Machine) → j < k → before g packet maps j ≡ At j m → DoAs v m.maps (sites_at j p.sites) (machine.operation_at g.code m)
  pub maps_are : after v maps (sites_below k p.sites) ≡ maps_in maps (before g packet maps k)

-- Nodes make their cells one after another; sites stand in the order of their nodes, and take what these and earlier ones make.
pub record IsLaidOut (g : GraphView) (p : ProgramView) : Type 0 where
  pub count : length p.nodes ≡ length g.nodes
  pub places : (k : ℕ) → k < length g.nodes → (made_at p.nodes k).place ≡ (node_at g.nodes k).place
  pub inside : (k : ℕ) → k < length p.nodes → ((made_at p.nodes k).first ≤ (made_at p.nodes k).guard) × ((made_at p.nodes k).guard < (made_at p.nodes k).end) × ((made_at p.nodes k).end ≤ length p.cells)
  pub ascending : (k : ℕ) → k + 1 < length p.nodes → (made_at p.nodes k).end ≤ (made_at p.nodes (k + 1)).first
  pub sites : AllPairs (λ s r. s.node ≤ r.node) p.sites
  pub guards : All (λ s. s.guard ≡ (made_at p.nodes s.node).guard) p.sites
  pub below : All (λ s. IsBelow (made_at p.nodes s.node).end s) p.sites

-- The cells compute the runs of the program: for every prefix of the nodes, and whatever values stand for reads off the path or after the
-- prefix, they are right as far as it goes; and the cells of the answer are what the packet leaves.
pub record Computes (g : GraphView) (p : ProgramView) : Type 0 where
  pub formed : AreFormed p.cells
  pub laid : IsLaidOut g p
  -- the pointers, and the cells of what is held at each node, the same for every packet
  pub pointers : List PointerView
  pub held : ℕ → RegisterCells
  pub right : (packet : PacketIn) (maps : MapState) (v : ℕ → ℕ) (k : ℕ) → IsPacket packet → IsSound maps → maps.decls ≡ g.decls → IsRun packet p.cells v
      → k ≤ length g.nodes → AreAnswered maps p v k → IsRight g p pointers held packet maps v k
  -- the packet run comes to the end that the cells say, and touches what the operations whose guards are on touch
  pub ends : (packet : PacketIn) (maps : MapState) (v : ℕ → ℕ) → IsPacket packet → IsSound maps → maps.decls ≡ g.decls → IsCellRun packet maps p v
      → machine.Touches g.code packet maps (leaves v packet maps p) (touched v maps p.sites)

-- The law of cells.
pub record IsLaw (g : GraphView) (p : ProgramView) : Type 0 where
  pub computes : Computes g p
  pub sited : AreSited g.decls p
  pub accesses : AccessesLookUp g.decls p
  pub stays : AccessesStay p
  pub reads : ReadsAreMade g.decls p
  pub waits : ReadsWait p
