-- Edges lead to every node that is to come, and what is known at a node says no more than what is known on each of them.
use Rattle.std.specs.Prelude.{ℕ, ◌≡◌, ◌+◌, ◌<◌, ◌≤◌, ◌⊎◌, List, [], ◌∷◌, ◌++◌, length, All, Contains}
use Rattle.kind_core.specs.declared.kind.Offsets.TheVariants.{Fixed}
use Rattle.kind_core.specs.Kinds as kinds
use Rattle.operator_cells.specs.declared.held_cells.way.Way.{Way}
use Rattle.operator_cells.specs.HeldCells.Paths.{EdgeView, GraphView, node_at}
use Rattle.edge_cells.specs.Widening.{AreWider}
use Rattle.edge_cells.specs.NodeCells.Feeding.{Leave}
use Rattle.predicate_core.specs.ProgramGraph.Sound.{IsSoundGraph}

-- Before node k an edge leads to each node that is to come, or is still to be made.
pub record AreFed (g : GraphView) (k : ℕ) (ways : List Way) : Type 0 where
  pub wider : All (λ e. k ≤ e.to → AreWider (node_at g.nodes e.to).kinds e.kinds) ways
  pub some : (n : ℕ) → k ≤ n → n < length g.nodes → ((e : Way) × Contains ways e × (e.to ≡ n)) ⊎ ((x : EdgeView) × Contains g.edges x × (x.to ≡ n) × (k ≤ x.from))

-- With the edge to the first node all nodes are fed; they stay so as each node's edges are made; and where a node's turn comes an edge leads to it.
pub record FeedsNodes (g : GraphView) : Type 0 where
  pub start : (e : Way) → e.to ≡ 0 → e.kinds ≡ kinds.start Fixed → AreFed g 0 (e ∷ [])
  pub follow : (k : ℕ) (ways more : List Way) → AreFed g k ways → Leave g k more → AreFed g (k + 1) (ways ++ more)
  pub here : (k : ℕ) (ways : List Way) → k < length g.nodes → AreFed g k ways → ((e : Way) × Contains ways e × (e.to ≡ k)) × All (λ e. e.to ≡ k → AreWider (node_at g.nodes k).kinds e.kinds) ways

abbrev pub SoundGraphsFeed : Type 0
SoundGraphsFeed = (g : GraphView) → IsSoundGraph g → FeedsNodes g
