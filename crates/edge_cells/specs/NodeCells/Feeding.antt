-- What is known on the edges of a graph, and the edges that leave a node of it.
use Rattle.std.specs.Prelude.{ℕ, ◌≡◌, ◌==◌, Option, Some, None, List, All, Contains}
use Rattle.std.specs.List.{list_any}
use Rattle.xdp_machine.specs.bpf_isa.declared.instruction.Insn.{Insn}
use Rattle.xdp_machine.specs.bpf_isa.Text.{insn_at}
use Rattle.kind_core.specs.declared.kind.Kinds.{Kinds}
use Rattle.kind_core.specs.Edges.{transferred}
use Rattle.operator_cells.specs.declared.held_cells.way.Way.{Way}
use Rattle.operator_cells.specs.HeldCells.Paths.{EdgeView, GraphView, node_at}

-- what is known on an edge, after the instruction of the node that it leaves
abbrev pub known_behind : GraphView → EdgeView → Option Insn → Kinds
known_behind g x (Some i) = transferred g.decls (node_at g.nodes x.from).kinds i x.from (list_any (λ r. r == (node_at g.nodes x.from).place) g.code.refs) x.taken
known_behind g x None = (node_at g.nodes x.from).kinds

abbrev pub known_on : GraphView → EdgeView → Kinds
known_on g x = known_behind g x (insn_at g.code.insns (node_at g.nodes x.from).place)

-- the edges that leave node k
pub record Leave (g : GraphView) (k : ℕ) (more : List Way) : Type 0 where
  pub each : All (λ e. (x : EdgeView) × Contains g.edges x × (x.from ≡ k) × (x.to ≡ e.to) × (e.kinds ≡ known_on g x)) more
  pub all : (x : EdgeView) → Contains g.edges x → x.from ≡ k → (e : Way) × Contains more e × (e.to ≡ x.to)
