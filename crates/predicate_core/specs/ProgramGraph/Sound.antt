-- Graphs in which the cells of nodes can be made one after another.
use Rattle.std.specs.Prelude.{ℕ, ◌≡◌, ◌<◌, ◌≤◌, length, All, Contains}
use Rattle.xdp_machine.specs.Program.{XdpProgram, IsProgram}
use Rattle.kind_core.specs.declared.kind.Offsets.TheVariants.{Fixed}
use Rattle.kind_core.specs.Kinds as kinds
use Rattle.kind_core.specs.Kinds.{value_bytes}
use Rattle.unfold_core.specs.declared.unfolding.Unfolded.{Unfolded}
use Rattle.unfold_core.specs.Unfolding.{IsUnfolded}
use Rattle.operator_cells.specs.HeldCells.Paths.{EdgeView, GraphView, node_at}
use Rattle.edge_cells.specs.Widening.{AreWider, AreFilled}
use Rattle.edge_cells.specs.NodeCells.Feeding.{known_on}
use Rattle.predicate_core.specs.ProgramGraph.Graphs.{graph_of}

-- Edges lead on, to each node but the first, where a run begins; what is known at a node is known on each edge to it, and no slot is unset there.
pub record IsSoundGraph (g : GraphView) : Type 0 where
  pub some : 0 < length g.nodes
  pub first : (node_at g.nodes 0).place ≡ 0
  pub values : (q : ℕ) → value_bytes g.decls q ≤ 64
  pub begins : AreWider (node_at g.nodes 0).kinds (kinds.start Fixed)
  pub filled : (k : ℕ) → k < length g.nodes → AreFilled (node_at g.nodes k).kinds
  pub edges : All (λ x. (x.from < x.to) × (x.to < length g.nodes) × AreWider (node_at g.nodes x.to).kinds (known_on g x)) g.edges
  pub reached : (n : ℕ) → 0 < n → n < length g.nodes → (x : EdgeView) × Contains g.edges x × (x.to ≡ n)

-- The graph of a program that unfolds with offsets that do not vary is one.
abbrev pub GraphsAreSound : Type 0
GraphsAreSound = (p : XdpProgram) (u : Unfolded) → IsProgram p → IsUnfolded p u → u.offsets ≡ Fixed → IsSoundGraph (graph_of p u)
