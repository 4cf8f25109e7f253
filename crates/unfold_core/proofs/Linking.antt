-- The edges of a graph, node by node.
use Rattle.std.proofs.Common.{◌≡◌, ℕ, ◌<◌, List, length, get_or, Ok, sym, subst}
use Rattle.std.specs.Prelude.{All}
use Rattle.xdp_machine.specs.Program.{XdpProgram}
use Rattle.kind_core.specs.declared.kind.Offsets.{Offsets}
use Rattle.unfold_core.specs.declared.nesting.Loop.{Loop}
use Rattle.unfold_core.specs.declared.edges.Point.{Point}
use Rattle.unfold_core.specs.Loops.{AreLoops}
use Rattle.unfold_core.specs.Nodes.{IsNode}
use Rattle.unfold_core.specs.Edges.{leaving}
use Rattle.unfold_core.specs.Graphs.{IsGraph}
use Rattle.unfold_core.proofs.EdgesUp.{leaving_goes_up}

-- the edges of a node lead to nodes
pub ends_of_graph : (offsets : Offsets) (p : XdpProgram) (ls : List Loop) (g given es : List Point) (n : Point) (k : ℕ) → AreLoops p.insns ls → IsGraph offsets p ls g → k < length g → n ≡ get_or g k n → leaving p ls k n ≡ Ok es → given ≡ es
    → All (λ e. IsNode ls e.node) given
ends_of_graph offsets p ls g given es n k loops h below at e same =
    let node : IsNode ls n.node = subst (λ x. IsNode ls x.node) (sym at) (h.ordered.nodes k n below) in
    subst (All (λ x. IsNode ls x.node)) (sym same) (λ i d lt. (leaving_goes_up p ls k n es loops node e i d lt).0)
