-- The graph of a program without loops: its nodes in unfolded order with what is known at each, its edges, and the first node that
-- refuses it.
use Rattle.std.specs.Prelude.{ℕ, ◌≡◌, ◌+◌, ◌<◌, ◌≤◌, ◌&&◌, ◌⊎◌, not, if◌then◌else◌, Bool, true, false, List, [], ◌∷◌, ◌++◌, length, All, Option, Some, None, Result, Ok, Err}
use Rattle.std.specs.List.{AllPairs}
use Rattle.std.specs.declared.vec.Vec.{Vec}
use Rattle.std.specs.declared.alloc.Global.{Global}
use Rattle.xdp_machine.specs.Program.{XdpProgram}
use Rattle.kind_core.specs.declared.kind.Offsets.{Offsets}
use Rattle.kind_core.specs.declared.kind.Kinds.{Kinds}
use Rattle.xdp_state.specs.declared.refusal.Why.{Why}
use Rattle.xdp_state.specs.declared.refusal.Why.TheVariants as why
use Rattle.xdp_state.specs.declared.refusal.Refusal.{Refusal}
use Rattle.xdp_state.specs.declared.refusal.BuildError.{BuildError}
use Rattle.xdp_state.specs.declared.refusal.BuildError.TheVariants.{Refused, NoMemory}
use Rattle.kind_core.specs.Kinds as kinds
use Rattle.kind_core.specs.Joins.{joined}
use Rattle.unfold_core.specs.declared.nesting.Loop.{Loop}
use Rattle.unfold_core.specs.declared.edges.Point.{Point}
use Rattle.unfold_core.specs.Loops.{Nests}
use Rattle.unfold_core.specs.Nodes.{GraphNode, IsNode, start, comes_before}
use Rattle.unfold_core.specs.Edges.{leaving}

-- two nodes of a program are the same where neither comes before the other
abbrev pub same : List Loop → GraphNode → GraphNode → Bool
same ls a b = not (comes_before ls a b) && not (comes_before ls b a)

-- what a list holds at a node
abbrev pub found : List Loop → GraphNode → List Point → Option Kinds
found ls n [] = None
found ls n (p ∷ ps) = if same ls p.node n then Some p.kinds else found ls n ps

-- where one more edge meets what is known so far
abbrev pub met : Option Kinds → Kinds → Kinds
met (Some k) j = joined k j
met None j = j

abbrev pub arrives : List Loop → GraphNode → Option Kinds → Point → Option Kinds
arrives ls n k e = if same ls e.node n then Some (met k e.kinds) else k

-- what is known at a node by the edges that lead to it, whose ends these are: the join over all of them, and nothing where none does
abbrev pub arriving : List Loop → GraphNode → Option Kinds → List Point → Option Kinds
arriving ls n k [] = k
arriving ls n k (e ∷ es) = arriving ls n (arrives ls n k e) es

-- nodes of a program in unfolded order
pub record AreOrdered (ls : List Loop) (g : List Point) : Type 0 where
  pub nested : AllPairs Nests ls
  pub nodes : All (λ p. IsNode ls p.node) g
  pub ascending : AllPairs (λ p q. comes_before ls p.node q.node ≡ true) g

-- a run begins with the first kinds
abbrev pub first_point : Offsets → List Loop → Point
first_point offsets ls = record { node = start ls; kinds = kinds.start offsets }

abbrev pub ends : Result (List Point) Why → List Point
ends (Ok es) = es
ends (Err w) = []

-- the ends of all edges that leave these nodes, whose numbers are k and so on
abbrev pub edges_from : XdpProgram → List Loop → ℕ → List Point → List Point
edges_from p ls k [] = []
edges_from p ls k (n ∷ ns) = ends (leaving p ls k n) ++ edges_from p ls (k + 1) ns

-- what leads to nodes: the start, and the edges of the nodes
abbrev pub leading : Offsets → XdpProgram → List Loop → List Point → List Point
leading offsets p ls g = first_point offsets ls ∷ edges_from p ls 0 g

-- no test refuses these nodes
abbrev pub Pass : XdpProgram → List Loop → ℕ → List Point → Type 0
Pass p ls k [] = Unit {0}
Pass p ls k (n ∷ ns) = ((es : List Point) × (leaving p ls k n ≡ Ok es)) × Pass p ls (k + 1) ns

-- the most nodes of a program
abbrev pub most_nodes : ℕ
most_nodes = 16384

-- The graph of a program: exactly the nodes that the start or an edge leads to, in unfolded order; what is known at each is the join
-- over all edges that lead to it; and no node is refused.
pub record IsGraph (offsets : Offsets) (p : XdpProgram) (ls : List Loop) (g : List Point) : Type 0 where
  pub few : length g ≤ most_nodes
  pub ordered : AreOrdered ls g
  pub pass : Pass p ls 0 g
  pub known : (n : GraphNode) → IsNode ls n → found ls n g ≡ arriving ls n None (leading offsets p ls g)

-- a node of this number is refused: it is one too many, or fails a test
abbrev pub IsRefused : XdpProgram → List Loop → ℕ → Point → Why → Type 0
IsRefused p ls number n w = ((number ≡ most_nodes) × (w ≡ why.Size)) ⊎ ((number < most_nodes) × (leaving p ls number n ≡ Err w))

-- The first node that is refused: up to it the nodes are those of the graph, and it is the only one of them that is refused.
pub record IsFirstNode (offsets : Offsets) (p : XdpProgram) (ls : List Loop) (r : Refusal) : Type 0 where
  pub before : List Point
  pub node : Point
  pub ordered : AreOrdered ls (before ++ node ∷ [])
  pub pass : Pass p ls 0 before
  pub known : (n : GraphNode) → IsNode ls n → comes_before ls node.node n ≡ false → found ls n (before ++ node ∷ []) ≡ arriving ls n None (leading offsets p ls before)
  pub refused : IsRefused p ls (length before) node r.why
  pub at_is : r.at ≡ node.node.place

abbrev pub Walks : Offsets → XdpProgram → List Loop → Result (Vec Point Global) BuildError → Type 0
Walks offsets p ls (Ok v) = IsGraph offsets p ls v.items
Walks offsets p ls (Err (Refused r)) = IsFirstNode offsets p ls r
Walks offsets p ls (Err NoMemory) = Unit {0}
