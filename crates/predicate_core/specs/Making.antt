-- What has been made of a program once some of its nodes are done, from the first on.
use Rattle.std.specs.Prelude.{ℕ, ◌≡◌, ◌+◌, ◌<◌, ◌≤◌, true, Some, List, [], ◌++◌, length, get_or, replicate, take, All, Contains}
use Rattle.std.specs.List.{AllPairs}
use Rattle.xdp_machine.specs.xdp_maps.State.{MapState, IsSound}
use Rattle.xdp_machine.specs.State.{Machine, PacketIn}
use Rattle.xdp_machine.specs.Runs.{Leaves}
use Rattle.xdp_machine.specs.MachineLaws.{LeavesInRange}
use Rattle.xdp_machine.specs.Touched as machine
use Rattle.cell_core.specs.declared.program.Node.{Node}
use Rattle.cell_core.specs.declared.program.FrameByte.{FrameByte}
use Rattle.cell_core.specs.Cells.{CellView, IsRun, cell_at, site_in, bits_from, bit, on}
use Rattle.cell_core.specs.Sites.{SiteView, ProgramView, site_at, after, read_on, with_bytes}
use Rattle.cell_core.specs.Formed.{AreFormed, AreSited, IsBelow}
use Rattle.cell_core.specs.Rows.{AreRows, last_row}
use Rattle.operator_cells.specs.Making.{Grows, NumbersAreAlone}
use Rattle.operator_cells.specs.declared.held_cells.machine_cells.RegisterCells.{RegisterCells}
use Rattle.operator_cells.specs.declared.held_cells.way.Way.{Way}
use Rattle.operator_cells.specs.declared.held_cells.way.Exit.{Exit}
use Rattle.operator_cells.specs.HeldCells.Paths.{GraphView, Stage, At, node_at, before, on_path, maps_in}
use Rattle.operator_cells.specs.HeldCells.RegisterCells.{PointerView, AreInside, AreHeld}
use Rattle.operator_cells.specs.HeldCells.Steps.{IsGood, IsHere, AreMade, IsLeft, DoAs}
use Rattle.operator_cells.specs.HeldCells.Law.{IsPacket, made_at, sites_below, sites_at}
use Rattle.edge_cells.specs.Meeting.{Extends}
use Rattle.predicate_core.specs.Buildable.{HasBits, AddsNoRow}

-- cells, pointers and sites of the nodes that are done, and these nodes; the edges that lead from them to others, and their ends
pub record Making : Type 0 where
  pub cells : List CellView
  pub pointers : List PointerView
  pub sites : List SiteView
  pub ways : List Way
  pub exits : List Exit
  pub nodes : List Node

-- as a program, whose answer is not there yet
abbrev pub made_alone : Making → ProgramView
made_alone t = record { cells = t.cells; nodes = t.nodes; sites = t.sites; verdict = 0; target = 0; frame = [] }

-- what stands for what is held at a node that is not done
abbrev pub no_held : RegisterCells
no_held = record { registers = replicate 11 0; slots = replicate 64 0; window = replicate 256 0; target = 0 }

abbrev pub held_in : List RegisterCells → ℕ → RegisterCells
held_in hs j = get_or hs j no_held

-- the reads of the sites of nodes below k, where their guards are on, answer as the maps after the operations before them do
abbrev pub AreReadBelow : MapState → List CellView → List SiteView → (ℕ → ℕ) → ℕ → Type 0
AreReadBelow maps cells sites v k = (c j : ℕ) → c < length cells → j < length sites → site_in (cell_at cells c).op ≡ Some j → (site_at sites j).node < k → on (v (site_at sites j).guard) ≡ true
    → v c ≡ bits_from (read_on v (after v maps (take j sites)) (site_at sites j) (cell_at cells c).op) (cell_at cells c).from (cell_at cells c).width

-- a packet on maps of the program, and values of the cells, right in the reads of the nodes below k
pub record IsCase (g : GraphView) (t : Making) (packet : PacketIn) (maps : MapState) (v : ℕ → ℕ) (k : ℕ) : Type 0 where
  pub is_packet : IsPacket packet
  pub sound : IsSound maps
  pub decls : maps.decls ≡ g.decls
  pub run : IsRun packet t.cells v
  pub read : AreReadBelow maps t.cells t.sites v k

-- The cells are right as far as node k, which is next: guards of the nodes before it and what is held there; sites do what the steps of these
-- nodes do, and leave the maps of the run; and the edges and ends so far are good.
pub record AreRight (g : GraphView) (k : ℕ) (hs : List RegisterCells) (t : Making) : Type 0 where
  pub guards : (packet : PacketIn) (maps : MapState) (v : ℕ → ℕ) (j : ℕ) → j < k → IsCase g t packet maps v j → v (made_at t.nodes j).guard ≡ bit (on_path g packet maps j)
  pub holds : (packet : PacketIn) (maps : MapState) (v : ℕ → ℕ) (j : ℕ) (m : Machine) → j < k → IsCase g t packet maps v j → before g packet maps j ≡ At j m
      → AreHeld g.decls packet v t.pointers (held_in hs j) (node_at g.nodes j).kinds m
  pub does : (packet : PacketIn) (maps : MapState) (v : ℕ → ℕ) (j : ℕ) (m : Machine) → j < k → IsCase g t packet maps v (j + 1) → before g packet maps j ≡ At j m
      → DoAs v m.maps (sites_at j t.sites) (machine.operation_at g.code m)
  pub maps_are : (packet : PacketIn) (maps : MapState) (v : ℕ → ℕ) (j : ℕ) → j ≤ k → IsCase g t packet maps v j → after v maps (sites_below j t.sites) ≡ maps_in maps (before g packet maps j)
  pub good : (packet : PacketIn) (maps : MapState) (v : ℕ → ℕ) → IsCase g t packet maps v k → IsGood g packet v t.pointers k t.ways t.exits (before g packet maps k)

-- Nodes stand in their order, each with cells that it makes, its guard among them, and sites in the order of their nodes.
pub record AreLaid (g : GraphView) (k : ℕ) (t : Making) : Type 0 where
  pub count : length t.nodes ≡ k
  pub places : (j : ℕ) → j < k → (made_at t.nodes j).place ≡ (node_at g.nodes j).place
  pub inside : (j : ℕ) → j < k → ((made_at t.nodes j).first ≤ (made_at t.nodes j).guard) × ((made_at t.nodes j).guard < (made_at t.nodes j).end) × ((made_at t.nodes j).end ≤ length t.cells)
  pub ascending : (j : ℕ) → j + 1 < k → (made_at t.nodes j).end ≤ (made_at t.nodes (j + 1)).first
  pub low : All (λ s. s.node < k) t.sites
  pub split : (j : ℕ) → j < k → sites_below (j + 1) t.sites ≡ sites_below j t.sites ++ sites_at j t.sites
  pub sites : AllPairs (λ s r. s.node ≤ r.node) t.sites
  pub guards : All (λ s. s.guard ≡ (made_at t.nodes s.node).guard) t.sites
  pub below : All (λ s. IsBelow (made_at t.nodes s.node).end s) t.sites

-- The nodes below k are done, and this is held at them.
pub record IsSoFar (g : GraphView) (k : ℕ) (hs : List RegisterCells) (t : Making) : Type 0 where
  pub formed : AreFormed t.cells
  pub numbers : NumbersAreAlone t.cells
  pub made : AreMade g t.cells t.pointers t.ways t.exits
  pub held_count : length hs ≡ k
  pub inside : (j : ℕ) → j < k → AreInside g.decls (length t.cells) t.pointers (held_in hs j) (node_at g.nodes j).kinds
  pub laid : AreLaid g k t
  pub rows : (row : ℕ → ℕ) → AreRows t.cells row → (c : ℕ) → c < length t.cells → row c ≤ last_row row t.nodes
  pub sited : AreSited g.decls (made_alone t)
  pub right : AreRight g k hs t

-- Before the step of node k: more cells and pointers, among them its guard and what is held there, right wherever things are good before the node.
pub record Arrives (g : GraphView) (k : ℕ) (t : Making) (cells : List CellView) (pointers : List PointerView) (guard : ℕ) (h : RegisterCells) : Type 0 where
  pub grows : Grows t.cells cells
  pub extends : Extends t.pointers pointers
  pub own : (length t.cells ≤ guard) × (guard < length cells)
  pub inside : AreInside g.decls (length cells) pointers h (node_at g.nodes k).kinds
  pub here : (packet : PacketIn) (v : ℕ → ℕ) (s : Stage) → IsRun packet cells v → IsGood g packet v t.pointers k t.ways t.exits s → IsHere g packet v pointers k guard h s

-- More cells after all nodes, and those of the answer: where the ends that are on hold what a packet leaves, so do these.
pub record Answers (old new : List CellView) (exits : List Exit) (verdict target : ℕ) (frame : List FrameByte) : Type 0 where
  pub grows : Grows old new
  pub no_row : AddsNoRow old new
  pub verdict_is : HasBits new 32 verdict
  pub target_is : HasBits new 32 target
  pub bytes : All (λ b. (b.at < 256) × HasBits new 8 b.cell) frame
  pub ascending : AllPairs (λ a b. a.at < b.at) frame
  pub leaves : (packet : PacketIn) (v : ℕ → ℕ) (e : Leaves) → IsPacket packet → LeavesInRange e → IsRun packet new v → All (λ x. on (v x.guard) ≡ true → IsLeft packet v x e) exits
      → (x : Exit) × Contains exits x × (on (v x.guard) ≡ true)
      → (v verdict ≡ e.verdict) × (v target ≡ e.target) × (with_bytes v packet.frame frame ≡ e.frame)
