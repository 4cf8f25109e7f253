-- What the edges of a graph are: the present edges of its nodes. Each leads to where the machine goes on, and brings what is known after the instruction.
use Rattle.std.specs.Prelude.{ℕ, pos, ◌≡◌, ◌<◌, ◌⊎◌, if◌then◌else◌, Bool, true, Option, Some, None, List, ◌∷◌, length, get_or, fold, All}
use Rattle.std.specs.List.{Contains}
use Rattle.xdp_machine.specs.bpf_isa.declared.instruction.Insn.{Insn}
use Rattle.xdp_machine.specs.bpf_isa.Text.{insn_at}
use Rattle.xdp_machine.specs.State.{begins}
use Rattle.xdp_machine.specs.Program.{XdpProgram}
use Rattle.kind_core.specs.declared.kind.Offsets.{Offsets}
use Rattle.kind_core.specs.declared.kind.Kinds.{Kinds}
use Rattle.kind_core.specs.Kinds as kinds
use Rattle.kind_core.specs.Tests.{passed}
use Rattle.kind_core.specs.Effects.{effect_of, verdict}
use Rattle.kind_core.specs.Edges.{decided, transferred}
use Rattle.kind_core.specs.Joins.{joined}
use Rattle.kind_core.specs.Soundness.{target}
use Rattle.unfold_core.specs.declared.nesting.Loop.{Loop}
use Rattle.unfold_core.specs.declared.edges.Point.{Point}
use Rattle.unfold_core.specs.declared.links.Edge.{Edge}
use Rattle.unfold_core.specs.Loops.{AreLoops}
use Rattle.unfold_core.specs.Nodes.{start}
use Rattle.unfold_core.specs.Edges.{goes_next, goes_jump, is_reference}
use Rattle.unfold_core.specs.Graphs.{IsGraph}
use Rattle.unfold_core.specs.Unfolding.{links}
use Rattle.unfold_core.specs.RunLaws.{edge}
use Rattle.unfold_core.specs.GraphLaws.{HaveAll}

-- whether the edge of a jump, or else that to the next place, is present
abbrev pub goes_along : Kinds → Insn → Bool → Bool
goes_along k i taken = if taken then goes_jump i.op (decided k i) else goes_next i.op (decided k i)

-- An edge from a node to another: it is present, and leads to the place where the machine goes on, where an instruction begins.
pub record IsLink (p : XdpProgram) (at : Point) (i : Insn) (taken : Bool) (to : Point) : Type 0 where
  pub present : goes_along at.kinds i taken ≡ true
  pub target_is : target at.node.place i i.op taken ≡ pos to.node.place
  pub starts : begins p.insns to.node.place ≡ true

-- The edges that leave node k of a graph: its instruction passes its tests; each edge is one of it; for each side that is present there is one, and one
-- alone; and two that lead to one place lead to one node.
pub record HasLinks (p : XdpProgram) (ls : List Loop) (g : List Point) (k : ℕ) (d : Point) : Type 0 where
  pub insn : Insn
  pub insn_is : insn_at p.insns (get_or g k d).node.place ≡ Some insn
  pub allowed : verdict (effect_of p.decls (get_or g k d).kinds insn) ≡ passed
  pub each : (x : Edge) → Contains (links p ls g 0 g) x → x.from ≡ k → IsLink p (get_or g k d) insn x.taken (get_or g x.to d)
  pub some : (taken : Bool) → goes_along (get_or g k d).kinds insn taken ≡ true → (to : ℕ) × Contains (links p ls g 0 g) (edge k taken to)
  pub one : (x y : Edge) → Contains (links p ls g 0 g) x → Contains (links p ls g 0 g) y → x.from ≡ k → y.from ≡ k → x.taken ≡ y.taken → x.to ≡ y.to
  pub same : (x y : Edge) → Contains (links p ls g 0 g) x → Contains (links p ls g 0 g) y → x.from ≡ k → y.from ≡ k → (get_or g x.to d).node.place ≡ (get_or g y.to d).node.place → x.to ≡ y.to

-- Each node of a graph has its present edges.
abbrev pub NodesHaveLinks : Type 0
NodesHaveLinks = (offsets : Offsets) (p : XdpProgram) (ls : List Loop) (g : List Point) (k : ℕ) (d : Point) → AreLoops p.insns ls → IsGraph offsets p ls g → k < length g → HasLinks p ls g k d

-- what is known on an edge, after the instruction of the node that it leaves
abbrev pub known_behind : XdpProgram → Point → Edge → Option Insn → Kinds
known_behind p at x (Some i) = transferred p.decls at.kinds i x.from (is_reference p at.node.place) x.taken
known_behind p at x None = at.kinds

abbrev pub known_on : XdpProgram → List Point → Point → Edge → Kinds
known_on p g d x = known_behind p (get_or g x.from d) x (insn_at p.insns (get_or g x.from d).node.place)

-- these kinds come to node k by an edge, or by the start
abbrev pub Comes : Offsets → XdpProgram → List Loop → List Point → ℕ → Point → Kinds → Type 0
Comes offsets p ls g k d j = ((k ≡ 0) × (j ≡ kinds.start offsets)) ⊎ ((x : Edge) × Contains (links p ls g 0 g) x × (x.to ≡ k) × (j ≡ known_on p g d x))

-- What is known at node k is the join of what is known on the edges to it, and of what a run begins with at the first one: of all of them, and of
-- nothing else.
pub record JoinsLinks (offsets : Offsets) (p : XdpProgram) (ls : List Loop) (g : List Point) (k : ℕ) (d : Point) : Type 0 where
  pub head : Kinds
  pub tail : List Kinds
  pub kinds_are : (get_or g k d).kinds ≡ fold joined head tail
  pub all : All HaveAll (head ∷ tail)
  pub each : All (Comes offsets p ls g k d) (head ∷ tail)
  pub every : (j : Kinds) → Comes offsets p ls g k d j → Contains (head ∷ tail) j

abbrev pub LinksAreJoined : Type 0
LinksAreJoined = (offsets : Offsets) (p : XdpProgram) (ls : List Loop) (g : List Point) (k : ℕ) (d : Point) → AreLoops p.insns ls → IsGraph offsets p ls g → k < length g → JoinsLinks offsets p ls g k d

-- A graph has a first node, where runs begin.
abbrev pub StartIsFirst : Type 0
StartIsFirst = (offsets : Offsets) (p : XdpProgram) (ls : List Loop) (g : List Point) (d : Point) → AreLoops p.insns ls → IsGraph offsets p ls g → (0 < length g) × ((get_or g 0 d).node ≡ start ls)
