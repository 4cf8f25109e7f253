-- What unfolding answers is one thing.
use Rattle.std.specs.Prelude.{ℕ, ◌≡◌, ◌<◌, if◌then◌else◌, Bool, List, [], ◌∷◌, length, get_or, fold, All}
use Rattle.std.specs.List.{Contains}
use Rattle.xdp_machine.specs.Program.{XdpProgram}
use Rattle.kind_core.specs.declared.kind.Offsets.{Offsets}
use Rattle.kind_core.specs.declared.kind.Kinds.{Kinds}
use Rattle.xdp_state.specs.declared.refusal.Refusal.{Refusal}
use Rattle.kind_core.specs.Joins.{joined}
use Rattle.unfold_core.specs.declared.nesting.Loop.{Loop}
use Rattle.unfold_core.specs.declared.edges.Point.{Point}
use Rattle.unfold_core.specs.Loops.{AreLoops}
use Rattle.unfold_core.specs.Nodes.{GraphNode}
use Rattle.unfold_core.specs.Graphs.{same, leading, IsGraph, IsFirstNode}
use Rattle.unfold_core.specs.Unfolding.{links}
use Rattle.unfold_core.specs.RunLaws.{edge}

-- A program has one graph: the equation of what is known at each node has one solution.
abbrev pub HasOneGraph : Type 0
HasOneGraph = (offsets : Offsets) (p : XdpProgram) (ls : List Loop) (g h : List Point) → AreLoops p.insns ls → IsGraph offsets p ls g → IsGraph offsets p ls h → g ≡ h

-- Or it has one first refusal,
abbrev pub HasOneRefusal : Type 0
HasOneRefusal = (offsets : Offsets) (p : XdpProgram) (ls : List Loop) (r s : Refusal) → AreLoops p.insns ls → IsFirstNode offsets p ls r → IsFirstNode offsets p ls s → r ≡ s

-- and never both.
abbrev pub HasNotBoth : Type 0
HasNotBoth = (offsets : Offsets) (p : XdpProgram) (ls : List Loop) (g : List Point) (r : Refusal) → AreLoops p.insns ls → IsGraph offsets p ls g → ¬ IsFirstNode offsets p ls r

-- Each edge of a graph leads from a node to a later one,
abbrev pub EdgesLeadOn : Type 0
EdgesLeadOn = (offsets : Offsets) (p : XdpProgram) (ls : List Loop) (g : List Point) → AreLoops p.insns ls → IsGraph offsets p ls g → All (λ x. (x.from < x.to) × (x.to < length g)) (links p ls g 0 g)

-- and to each node but the first an edge leads: so the nodes are exactly those that are reached from the first.
abbrev pub NodesAreReached : Type 0
NodesAreReached =
    (offsets : Offsets) (p : XdpProgram) (ls : List Loop) (g : List Point) (k : ℕ) → AreLoops p.insns ls → IsGraph offsets p ls g → 0 < k → k < length g → (from : ℕ) × (taken : Bool) × Contains (links p ls g 0 g) (edge from taken k)

-- what is known on the edges that lead to a node, in their order
abbrev pub brought : List Loop → GraphNode → List Point → List Kinds
brought ls n [] = []
brought ls n (e ∷ es) = if same ls e.node n then e.kinds ∷ brought ls n es else brought ls n es

-- kinds of 11 registers and 64 slots
abbrev pub HaveAll : Kinds → Type 0
HaveAll k = (length k.registers ≡ 11) × (length k.slots ≡ 64)

-- What is known at a node of a graph is what is known on the edges that lead there, the start among them, joined one after another; all of it
-- is known of 11 registers and 64 slots.
abbrev pub KindsAreJoined : Type 0
KindsAreJoined = (offsets : Offsets) (p : XdpProgram) (ls : List Loop) (g : List Point) (k : ℕ) (d : Point) → AreLoops p.insns ls → IsGraph offsets p ls g → k < length g
    → (j : Kinds) × (js : List Kinds) × (brought ls (get_or g k d).node (leading offsets p ls g) ≡ j ∷ js) × ((get_or g k d).kinds ≡ fold joined j js) × All HaveAll (j ∷ js)
