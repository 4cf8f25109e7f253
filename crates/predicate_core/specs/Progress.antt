-- Programs in memory, node by node.
use Rattle.std.specs.Prelude.{ℕ, ◌≡◌, ◌-◌, ◌<◌, List, [], ◌∷◌, ◌++◌, length, replicate, slice_index, get_or, map as map_list, All, Contains}
use Rattle.operator_cells.specs.Making.{seen}
use Rattle.operator_cells.specs.declared.held_cells.machine_cells.RegisterCells.{RegisterCells}
use Rattle.operator_cells.specs.declared.held_cells.way.Way.{Way}
use Rattle.operator_cells.specs.HeldCells.Paths.{GraphView}
use Rattle.operator_cells.specs.HeldCells.RegisterCells.{pointed}
use Rattle.edge_cells.specs.declared.joining.Here.{Here}
use Rattle.site_cells.specs.Sited.{sited}
use Rattle.predicate_core.specs.declared.making.Progress.{Progress}
use Rattle.predicate_core.specs.Making.{Making, IsSoFar, Arrives}
use Rattle.predicate_core.specs.Feeding.{AreFed}
use Rattle.predicate_core.specs.Opening.{HaveBytes}

-- what has been made, without the places in memory where it lies
abbrev pub making_of : Progress → Making
making_of p = record {
  cells = seen p.made.cells.items;
  pointers = pointed p.made.pointers.items;
  sites = sited p.made.sites.items;
  ways = p.made.ways.items;
  exits = p.made.exits.items;
  nodes = p.nodes.items;
}

-- which edges lead to each node, and which cells stand beside each edge
abbrev pub entries_of : Progress → List (List ℕ)
entries_of p = map_list (λ x. x.items) p.entries.items

abbrev pub pending_of : Progress → List (List ℕ)
pending_of p = map_list (λ x. x.items) p.pending.items

-- the nodes to which edges lead
abbrev pub targets : List Way → List ℕ
targets ways = map_list (λ e. e.to) ways

-- the numbers of the edges that lead to a node
pub record AreNumbers (n : ℕ) (tos numbers : List ℕ) : Type 0 where
  pub each : All (λ i. (i < length tos) × (slice_index tos i ≡ n)) numbers
  pub all : (i : ℕ) → i < length tos → slice_index tos i ≡ n → Contains numbers i

-- edge 0 leads to the first of so many nodes, and none to the others
pub record AreFirst (nodes : ℕ) (entries : List (List ℕ)) : Type 0 where
  pub size : length entries ≡ nodes
  pub each : (k : ℕ) → k < nodes → AreNumbers k (0 ∷ []) (get_or entries k [])

-- cells, one for each of so many maps, that are there among so many
abbrev pub AreWaiting : ℕ → ℕ → List ℕ → Type 0
AreWaiting maps n row = (length row ≡ maps) × All (λ c. c < n) row

-- For each of so many nodes the edges that lead to it, and beside each edge for each map a cell that is there.
pub record AreKept (nodes maps n : ℕ) (tos : List ℕ) (entries pending : List (List ℕ)) : Type 0 where
  pub size : length entries ≡ nodes
  pub inside : All (λ t. t < nodes) tos
  pub entered : (k : ℕ) → k < nodes → AreNumbers k tos (get_or entries k [])
  pub beside : length pending ≡ length tos
  pub waiting : All (AreWaiting maps n) pending

-- The nodes below k are done, and what leads to the others is known.
pub record IsReady (g : GraphView) (k : ℕ) (p : Progress) : Type 0 where
  pub held : List RegisterCells
  pub so_far : IsSoFar g k held (making_of p)
  pub fed : AreFed g k p.made.ways.items
  pub bytes : HaveBytes (seen p.made.cells.items) 256 p.window
  pub kept : AreKept (length g.nodes) (length g.decls) (length (seen p.made.cells.items)) (targets p.made.ways.items) (entries_of p) (pending_of p)

-- A node whose turn it is: its guard and what is held there, and for each map a cell that is there; only cells and pointers are added.
pub record Comes (g : GraphView) (k : ℕ) (old new : Progress) (here : Here) (pending : List ℕ) : Type 0 where
  pub arrives : Arrives g k (making_of old) (seen new.made.cells.items) (pointed new.made.pointers.items) here.guard here.held
  pub waiting : AreWaiting (length g.decls) (length (seen new.made.cells.items)) pending
  pub sites : new.made.sites ≡ old.made.sites
  pub ways : new.made.ways ≡ old.made.ways
  pub exits : new.made.exits ≡ old.made.exits
  pub nodes : new.nodes ≡ old.nodes
  pub entries : new.entries ≡ old.entries
  pub beside : new.pending ≡ old.pending
  pub window : new.window ≡ old.window

-- More edges lead to their nodes, and have these cells beside them.
pub record Entered (tos tos2 : List ℕ) (entries entries2 pending pending2 : List (List ℕ)) (row : List ℕ) : Type 0 where
  pub size : length entries2 ≡ length entries
  pub entered : (k : ℕ) → k < length entries → AreNumbers k tos (get_or entries k []) → AreNumbers k tos2 (get_or entries2 k [])
  pub beside : pending2 ≡ pending ++ replicate (length tos2 - length tos) row
