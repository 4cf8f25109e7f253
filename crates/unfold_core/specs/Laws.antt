-- What holds of the order of nodes.
use Rattle.std.specs.Prelude.{ℕ, ◌≡◌, true, false, List, Some}
use Rattle.std.specs.List.{AllPairs}
use Rattle.xdp_machine.specs.bpf_isa.declared.instruction.Insn.{Insn}
use Rattle.unfold_core.specs.declared.nesting.Loop.{Loop}
use Rattle.unfold_core.specs.Jumps.{Leads}
use Rattle.unfold_core.specs.Loops.{Nests, AreLoops}
use Rattle.unfold_core.specs.Nodes.{GraphNode, IsNode, start, comes_before, reached}

pub record IsStrictTotalOrder (ls : List Loop) : Type 0 where
  pub irreflexive : (a : GraphNode) → IsNode ls a → comes_before ls a a ≡ false
  pub transitive : (a b c : GraphNode) → IsNode ls a → IsNode ls b → IsNode ls c → comes_before ls a b ≡ true → comes_before ls b c ≡ true → comes_before ls a c ≡ true
  pub total : (a b : GraphNode) → IsNode ls a → IsNode ls b → comes_before ls a b ≡ false → comes_before ls b a ≡ false → a ≡ b

-- Of two nodes one comes before the other, and never in a circle.
abbrev pub NodesAreOrdered : Type 0
NodesAreOrdered = (ls : List Loop) → AllPairs Nests ls → IsStrictTotalOrder ls

-- a run begins at a node
abbrev pub StartIsNode : Type 0
StartIsNode = (ls : List Loop) → IsNode ls (start ls)

-- an edge leads to a node
abbrev pub EdgesReachNodes : Type 0
EdgesReachNodes = (ls : List Loop) (n m : GraphNode) (to : ℕ) → reached ls n to ≡ Some m → IsNode ls m

-- Every edge goes up in the order, so no path of edges comes back.
abbrev pub EdgesGoUp : Type 0
EdgesGoUp = (insns : List Insn) (ls : List Loop) (n m : GraphNode) (to : ℕ)
    → AreLoops insns ls → IsNode ls n → Leads insns n.place to → reached ls n to ≡ Some m → comes_before ls n m ≡ true
