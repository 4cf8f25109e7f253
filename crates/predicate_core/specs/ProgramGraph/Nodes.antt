-- The nodes of the graph of a program that unfolds.
use Rattle.std.specs.Prelude.{ℕ, ◌≡◌, ◌<◌, true, length}
use Rattle.xdp_machine.specs.bpf_isa.declared.operation.Op.TheVariants.{LoadImm}
use Rattle.xdp_machine.specs.bpf_isa.declared.instruction.Insn.{Insn}
use Rattle.xdp_machine.specs.Program.{XdpProgram, IsProgram}
use Rattle.unfold_core.specs.declared.unfolding.Unfolded.{Unfolded}
use Rattle.unfold_core.specs.Unfolding.{IsUnfolded}
use Rattle.operator_cells.specs.HeldCells.Paths.{GraphView, node_at}
use Rattle.edge_cells.specs.NodeCells.Ends.{IsNode, is_reference}
use Rattle.predicate_core.specs.ProgramGraph.Graphs.{graph_of}

-- An instruction begins at the place of node k, and passes its tests; only a load of a number of 64 bits refers to a map.
pub record HasInsn (g : GraphView) (k : ℕ) : Type 0 where
  pub insn : Insn
  pub node : IsNode g k insn (node_at g.nodes k).kinds
  pub refers : is_reference g k ≡ true → insn.op ≡ LoadImm

abbrev pub NodesHaveInsns : Type 0
NodesHaveInsns = (p : XdpProgram) (u : Unfolded) (k : ℕ) → IsProgram p → IsUnfolded p u → k < length (graph_of p u).nodes → HasInsn (graph_of p u) k
