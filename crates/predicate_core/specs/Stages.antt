-- What has been made of a program whose first nodes are done, against the rows of its graph.
use Rattle.std.specs.Prelude.{ℕ, ◌≡◌, ◌+◌, ◌<◌, ◌≤◌, ◌⊎◌, max, Option, Some, None, List, [], length, slice_index, count_by, take, get_or, Contains}
use Rattle.xdp_machine.specs.Program.{XdpProgram}
use Rattle.kind_core.specs.declared.kind.Kinds.{Kinds}
use Rattle.unfold_core.specs.declared.links.Edge.{Edge}
use Rattle.unfold_core.specs.declared.unfolding.Unfolded.{Unfolded}
use Rattle.cell_core.specs.Cells.{CellView}
use Rattle.cell_core.specs.Rows.{AreRows, node_row, record_count}
use Rattle.operator_cells.specs.row_rules.declared.place_rows.origin.Origin.{Origin}
use Rattle.operator_cells.specs.row_rules.PlaceRows.Locations.{first_pending}
use Rattle.operator_cells.specs.row_rules.PlaceRows.Spans.{pending_place}
use Rattle.operator_cells.specs.row_rules.PlaceRows.Origins.{row_at, every_row, by_place, origin_at_start}
use Rattle.operator_cells.specs.row_rules.declared.node_rows.joining.Arrival.{Arrival}
use Rattle.operator_cells.specs.row_rules.declared.node_rows.node.AfterNode.{AfterNode}
use Rattle.operator_cells.specs.row_rules.NodeRows.Joining.{edge_row, origins_at}
use Rattle.operator_cells.specs.row_rules.NodeRows.Rows.{point_at, insn_of, known_behind, arrivals_of, behind_node, rows_of, row_of_node, may_write}
use Rattle.operator_cells.specs.Making.{seen}
use Rattle.operator_cells.specs.declared.held_cells.machine_cells.RegisterCells.{RegisterCells}
use Rattle.operator_cells.specs.declared.held_cells.way.Way.{Way}
use Rattle.operator_cells.specs.HeldCells.RegisterCells.{PointerView, pointed}
use Rattle.operator_cells.specs.HeldCells.Law.{made_at}
use Rattle.operator_cells.specs.HeldCells.Rows.{number_at, held_row}
use Rattle.site_cells.specs.Sited.{sited}
use Rattle.predicate_core.specs.StepCells.Rows.{AreWithin}
use Rattle.predicate_core.specs.declared.making.Progress.{Progress}
use Rattle.predicate_core.specs.Progress.{pending_of}

-- ---- on the graph

-- what stands after a node
abbrev pub behind_at : XdpProgram → Unfolded → ℕ → AfterNode
behind_at p u n = behind_node p u.nodes.items u.edges.items (rows_of p u.nodes.items u.edges.items n) n

-- and after the edge with which a run begins
abbrev pub behind_start : AfterNode
behind_start = record { edge = 0; origins = record { places = by_place origin_at_start }; row = 0 }

-- what is known on an edge
abbrev pub known_along : XdpProgram → Unfolded → Edge → Kinds
known_along p u x = known_behind p (point_at u.nodes.items x.from) x.from x.taken (insn_of p (point_at u.nodes.items x.from))

-- what edges bring to a node, and the origins there
abbrev pub arrivals_at : XdpProgram → Unfolded → ℕ → List Arrival
arrivals_at p u n = arrivals_of p u.nodes.items u.edges.items (rows_of p u.nodes.items u.edges.items n) n

abbrev pub kinds_of : Unfolded → ℕ → Kinds
kinds_of u n = (point_at u.nodes.items n).kinds

abbrev pub origins_met : XdpProgram → Unfolded → ℕ → List (Option Origin)
origins_met p u n = origins_at (arrivals_at p u n) (n + 1) (kinds_of u n)

-- how many of the first k nodes may write a map
abbrev pub writing_nodes : XdpProgram → Unfolded → ℕ → ℕ
writing_nodes p u k = count_by (λ at. may_write p at (insn_of p at)) (take k u.nodes.items)

-- ---- on the cells

-- The nodes below k are done. This stands after an edge: it is that with which a run begins, or leaves one of them.
abbrev pub StandsBehind : XdpProgram → Unfolded → ℕ → Way → AfterNode → Type 0
StandsBehind p u k e b = ((e.to ≡ 0) × (b ≡ behind_start))
    ⊎ ((x : Edge) × Contains u.edges.items x × (x.from < k) × (x.to ≡ e.to) × (e.kinds ≡ known_along p u x) × (b ≡ behind_at p u x.from))

-- An origin says which number is held at its place, and which cell waits there: by its maker each has a name.
pub record AreNamed (named : ℕ → ℕ → ℕ) (k : ℕ) (e : Way) (waiting : List ℕ) (b : AfterNode) : Type 0 where
  pub held : (place : ℕ) (o : Origin) → place < first_pending → get_or b.origins.places place None ≡ Some o → (o.maker ≤ k) × (number_at e.held place ≡ named o.maker place)
  pub pending : (q : ℕ) (o : Origin) → q < length waiting → get_or b.origins.places (pending_place q) None ≡ Some o → (o.maker ≤ k) × (slice_index waiting q ≡ named o.maker (pending_place q))

-- No cell of an edge stands in a later row than what stands after it.
pub record StandWithin (row : ℕ → ℕ) (ps : List PointerView) (e : Way) (waiting : List ℕ) (b : AfterNode) : Type 0 where
  pub bit : row e.bit ≤ b.edge
  pub held : (place : ℕ) → place < first_pending → held_row row ps e.held e.kinds place ≤ row_at b.origins.places place
  pub pending : (q : ℕ) → q < length waiting → row (slice_index waiting q) ≤ row_at b.origins.places (pending_place q)

-- all of it
pub record Brings (p : XdpProgram) (u : Unfolded) (named : ℕ → ℕ → ℕ) (k : ℕ) (cells : List CellView) (ps : List PointerView) (e : Way) (pending : List ℕ) : Type 0 where
  pub behind : AfterNode
  pub stands : StandsBehind p u k e behind
  pub names : AreNamed named k e pending behind
  pub within : (row : ℕ → ℕ) → AreRows cells row → StandWithin row ps e pending behind

-- The nodes below k make no cell in a later row than they have in the graph, and no more sites that may write than there are nodes that may; each edge so far brings what
-- stands after it.
pub record FitSoFar (p : XdpProgram) (u : Unfolded) (k : ℕ) (t : Progress) : Type 0 where
  pub named : ℕ → ℕ → ℕ
  pub records : record_count (sited t.made.sites.items) ≤ writing_nodes p u k
  pub nodes : (row : ℕ → ℕ) → AreRows (seen t.made.cells.items) row → (j : ℕ) → j < k → node_row row (made_at t.nodes.items j) ≤ row_of_node p u.nodes.items u.edges.items j
  pub ways : (i : ℕ) (d : Way) → i < length t.made.ways.items → Brings p u named k (seen t.made.cells.items) (pointed t.made.pointers.items) (get_or t.made.ways.items i d) (get_or (pending_of t) i [])

-- What is held at node k, whose turn it is: where an origin is not the node's own its name holds; the rows are those of the origins.
pub record ComesWithin (p : XdpProgram) (u : Unfolded) (named : ℕ → ℕ → ℕ) (k : ℕ) (old new : List CellView) (ps : List PointerView) (guard : ℕ) (h : RegisterCells) (waiting : List ℕ) : Type 0 where
  pub held : (place : ℕ) (o : Origin) → place < first_pending → get_or (origins_met p u k) place None ≡ Some o → (o.maker ≡ k + 1) ⊎ ((o.maker ≤ k) × (number_at h place ≡ named o.maker place))
  pub pending : (q : ℕ) (o : Origin) → q < length waiting → get_or (origins_met p u k) (pending_place q) None ≡ Some o → (o.maker ≡ k + 1) ⊎ ((o.maker ≤ k) × (slice_index waiting q ≡ named o.maker (pending_place q)))
  pub rows : (row : ℕ → ℕ) → AreRows new row → AreRows old row
  pub cells : (row : ℕ → ℕ) → AreRows new row → (c : ℕ) → length old ≤ c → c < length new → row c ≤ max (edge_row (arrivals_at p u k)) (every_row (origins_met p u k))
  pub guard_row : (row : ℕ → ℕ) → AreRows new row → row guard ≤ edge_row (arrivals_at p u k)
  pub before : (row : ℕ → ℕ) → AreRows new row → AreWithin p.decls row ps h (kinds_of u k) waiting (row_at (origins_met p u k))
