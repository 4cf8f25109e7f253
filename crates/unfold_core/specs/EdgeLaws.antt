-- What holds of the edges that leave a node.
use Rattle.std.specs.Prelude.{ℕ, ◌≡◌, true, List, All, Ok}
use Rattle.xdp_machine.specs.Program.{XdpProgram}
use Rattle.unfold_core.specs.declared.nesting.Loop.{Loop}
use Rattle.unfold_core.specs.declared.edges.Point.{Point}
use Rattle.unfold_core.specs.Loops.{AreLoops}
use Rattle.unfold_core.specs.Nodes.{IsNode, comes_before}
use Rattle.unfold_core.specs.Edges.{leaving}

-- the end of an edge is a node that comes later
abbrev pub LeadsUp : List Loop → Point → Point → Type 0
LeadsUp ls at e = IsNode ls e.node × (comes_before ls at.node e.node ≡ true)

-- All edges that leave a node of a program lead to nodes that come later.
abbrev pub LeavingGoesUp : Type 0
LeavingGoesUp = (p : XdpProgram) (ls : List Loop) (number : ℕ) (at : Point) (es : List Point)
    → AreLoops p.insns ls → IsNode ls at.node → leaving p ls number at ≡ Ok es → All (LeadsUp ls at) es
