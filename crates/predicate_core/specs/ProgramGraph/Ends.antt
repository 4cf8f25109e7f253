-- The ends of the edges of all nodes of a graph.
use Rattle.std.specs.Prelude.{ℕ, ◌≡◌, ◌<◌, Bool, true, false, Some, List, length, slice_index_or}
use Rattle.xdp_machine.specs.bpf_isa.declared.instruction.Insn.{Insn}
use Rattle.xdp_machine.specs.bpf_isa.Text.{insn_at}
use Rattle.operator_cells.specs.HeldCells.Paths.{GraphView, node_at}
use Rattle.edge_cells.specs.NodeCells.Ends.{HasEnds}
use Rattle.predicate_core.specs.declared.program_graph.edge_ends.NodeEnds.{NodeEnds}

-- the ends of node k, which holds instruction i, are those of its edges
pub record HaveEnds (g : GraphView) (ends : List NodeEnds) : Type 0 where
  pub size : length ends ≡ length g.nodes
  pub each : (k : ℕ) (i : Insn) (d : NodeEnds) → k < length g.nodes → insn_at g.code.insns (node_at g.nodes k).place ≡ Some i
      → HasEnds g k i (slice_index_or ends k d).next (slice_index_or ends k d).jump

-- with an edge more, on one side, to a node
abbrev pub added : NodeEnds → Bool → ℕ → NodeEnds
added e true to = record e { jump = Some to }
added e false to = record e { next = Some to }
