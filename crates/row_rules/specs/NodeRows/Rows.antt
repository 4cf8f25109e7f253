-- The stages of a program: the rows of the nodes of its graph.
use Rattle.std.specs.Prelude.{ℕ, zero, suc, ◌≡◌, ◌+◌, ◌<◌, ◌≤◌, ◌==◌, ◌⊎◌, max, is_some, Bool, false, Option, Some, None, Result, Ok, Err, List, [], ◌∷◌, ◌++◌, length, count_by, get_or, map as map_list}
use Rattle.std.specs.List.{filter}
use Rattle.xdp_state.specs.bpf_isa.declared.instruction.Insn.{Insn}
use Rattle.xdp_state.specs.bpf_isa.Text.{insn_at}
use Rattle.xdp_state.specs.xdp_machine.Program.{XdpProgram}
use Rattle.kind_core.specs.declared.kind.Offsets.TheVariants.{Fixed}
use Rattle.kind_core.specs.declared.kind.Kinds.{Kinds}
use Rattle.kind_core.specs.Kinds as kinds
use Rattle.xdp_state.specs.declared.refusal.Refusal.{Refusal}
use Rattle.xdp_state.specs.declared.refusal.Why.TheVariants.{Stages as TooManyStages}
use Rattle.xdp_state.specs.declared.refusal.BuildError.{BuildError}
use Rattle.xdp_state.specs.declared.refusal.BuildError.TheVariants.{Refused, NoMemory}
use Rattle.xdp_state.specs.Reasons.{most_stages}
use Rattle.kind_core.specs.Edges.{transferred}
use Rattle.cell_core.specs.Cells.{bit}
use Rattle.unfold_core.specs.declared.edges.Point.{Point}
use Rattle.unfold_core.specs.declared.links.Edge.{Edge}
use Rattle.unfold_core.specs.declared.unfolding.Unfolded.{Unfolded}
use Rattle.unfold_core.specs.Edges.{is_reference}
use Rattle.row_rules.specs.declared.node_rows.joining.Arrival.{Arrival}
use Rattle.row_rules.specs.declared.node_rows.node.AfterNode.{AfterNode}
use Rattle.row_rules.specs.declared.node_rows.stages.Stages.{Stages}
use Rattle.row_rules.specs.NodeRows.Joining.{edge_row, origins_at}
use Rattle.row_rules.specs.PlaceRows.Writing.{record_as}
use Rattle.row_rules.specs.NodeRows.Passing.{behind}

-- what stands for a node past the last, and for what is after one
abbrev pub no_point : Point
no_point = record { node = record { place = 0; copies = [] }; kinds = kinds.start Fixed }

abbrev pub point_at : List Point → ℕ → Point
point_at nodes n = get_or nodes n no_point

abbrev pub no_behind : AfterNode
no_behind = record { edge = 0; origins = record { places = [] }; row = 0 }

abbrev pub insn_of : XdpProgram → Point → Option Insn
insn_of p at = insn_at p.insns at.node.place

-- what is known after an instruction at a node
abbrev pub known_behind : XdpProgram → Point → ℕ → Bool → Option Insn → Kinds
known_behind p at n taken (Some i) = transferred p.decls at.kinds i n (is_reference p at.node.place) taken
known_behind p at n taken None = at.kinds

-- what an edge brings, by what stands after the nodes before
abbrev pub arrival_of : XdpProgram → List Point → List AfterNode → Edge → Arrival
arrival_of p nodes passed e = record {
  row = (get_or passed e.from no_behind).edge;
  kinds = known_behind p (point_at nodes e.from) e.from e.taken (insn_of p (point_at nodes e.from));
  origins = (get_or passed e.from no_behind).origins;
}

-- what the edges bring that lead to a node
abbrev pub arrivals_of : XdpProgram → List Point → List Edge → List AfterNode → ℕ → List Arrival
arrivals_of p nodes edges passed n = map_list (arrival_of p nodes passed) (filter (λ e. e.to == n) edges)

-- What stands after a node: its guard is in the greatest row of the edges that lead to it, 0 at the start.
abbrev pub behind_by : XdpProgram → Point → ℕ → List Arrival → Option Insn → AfterNode
behind_by p at n es (Some i) = behind p.decls at.kinds (known_behind p at n false (Some i)) i (n + 1) (edge_row es) (origins_at es (n + 1) at.kinds)
behind_by p at n es None = no_behind

abbrev pub behind_node : XdpProgram → List Point → List Edge → List AfterNode → ℕ → AfterNode
behind_node p nodes edges passed n = behind_by p (point_at nodes n) n (arrivals_of p nodes edges passed n) (insn_of p (point_at nodes n))

-- after the first n nodes, one after another
abbrev pub rows_of : XdpProgram → List Point → List Edge → ℕ → List AfterNode
rows_of p nodes edges zero = []
rows_of p nodes edges (suc n) = rows_of p nodes edges n ++ behind_node p nodes edges (rows_of p nodes edges n) n ∷ []

abbrev pub row_of_node : XdpProgram → List Point → List Edge → ℕ → ℕ
row_of_node p nodes edges n = (behind_node p nodes edges (rows_of p nodes edges n) n).row

-- whether a node may write a map
abbrev pub may_write : XdpProgram → Point → Option Insn → Bool
may_write p at (Some i) = is_some (record_as p.decls at.kinds i i.op)
may_write p at None = false

-- with one node more, of this row
abbrev pub with_node : Stages → ℕ → Bool → Stages
with_node s row writes = record { rows = max s.rows row; records = s.records + bit writes }

-- A program has as many stages as the greatest row of a node, at most 256, and as many records as nodes that may write a map.
pub record HasStages (p : XdpProgram) (nodes : List Point) (edges : List Edge) (s : Stages) : Type 0 where
  pub within : (n : ℕ) → n < length nodes → row_of_node p nodes edges n ≤ s.rows
  pub some : (s.rows ≡ 0) ⊎ ((n : ℕ) × (n < length nodes) × (row_of_node p nodes edges n ≡ s.rows))
  pub few : s.rows ≤ most_stages
  pub records : s.records ≡ count_by (λ at. may_write p at (insn_of p at)) nodes

-- A node is refused whose row exceeds the most stages, and none before it.
pub record IsTooLate (p : XdpProgram) (nodes : List Point) (edges : List Edge) (r : Refusal) : Type 0 where
  pub node : ℕ
  pub inside : node < length nodes
  pub before : (n : ℕ) → n < node → row_of_node p nodes edges n ≤ most_stages
  pub beyond : most_stages < row_of_node p nodes edges node
  pub at_is : r.at ≡ (point_at nodes node).node.place
  pub why_is : r.why ≡ TooManyStages

abbrev pub AreCounted : XdpProgram → Unfolded → Result Stages BuildError → Type 0
AreCounted p u (Ok s) = HasStages p u.nodes.items u.edges.items s
AreCounted p u (Err (Refused r)) = IsTooLate p u.nodes.items u.edges.items r
AreCounted p u (Err NoMemory) = Unit {0}
