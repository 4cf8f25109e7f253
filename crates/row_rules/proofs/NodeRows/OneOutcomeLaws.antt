-- A program is accepted, or has one first refusal.
use Rattle.std.proofs.Common.{◌≡◌, ◌⊎◌, inl, inr, ◌∙◌, ℕ, ◌<◌, ◌≤◌, List, sym, ap, subst, arith}
use Rattle.xdp_state.specs.xdp_machine.Program.{XdpProgram}
use Rattle.xdp_state.specs.declared.refusal.Refusal.{Refusal}
use Rattle.kind_core.specs.declared.kind.Offsets.{Offsets}
use Rattle.unfold_core.specs.declared.nesting.Loop.{Loop}
use Rattle.unfold_core.specs.declared.edges.Point.{Point}
use Rattle.unfold_core.specs.declared.links.Edge.{Edge}
use Rattle.unfold_core.specs.Graphs.{IsGraph}
use Rattle.unfold_core.specs.Unfolding.{links}
use Rattle.unfold_core.specs.Acceptance as graphs
use Rattle.unfold_core.proofs.OneGraphLaws.{has_one_graph, same_refusal}
use Rattle.unfold_core.proofs.OneOutcomeLaws as graph
use Rattle.row_rules.specs.NodeRows.Rows.{IsTooLate, row_of_node, point_at}
use Rattle.row_rules.specs.NodeRows.Acceptance.{IsAccepted, HasTooManyStages, IsFirstRefusal, HasOneOutcome, edges_of}

-- ---- one node
same_number : (m n : ℕ) → ¬ (m < n) → ¬ (n < m) → m ≡ n
same_number m n a b = omega (arith, a, b)

not_before : (p : XdpProgram) (nodes : List Point) (edges : List Edge) (r s : Refusal) → (a : IsTooLate p nodes edges r) → (b : IsTooLate p nodes edges s) → ¬ (a.node < b.node)
not_before p nodes edges r s a b below = omega (arith, b.before a.node below, a.beyond)

late_one : (p : XdpProgram) (nodes : List Point) (edges : List Edge) (r s : Refusal) → IsTooLate p nodes edges r → IsTooLate p nodes edges s → r ≡ s
late_one p nodes edges r s a b =
    let same : a.node ≡ b.node = same_number a.node b.node (not_before p nodes edges r s a b) (not_before p nodes edges s r b a) in
    same_refusal r s (a.at_is ∙ ap (λ n. (point_at nodes n).node.place) same ∙ sym b.at_is) (a.why_is ∙ sym b.why_is)

-- ---- one graph
module _ (offsets : Offsets) (p : XdpProgram) (r : Refusal) (a b : graphs.IsAccepted offsets p) where
  same_loops : a.loops ≡ b.loops
  same_loops = graph.one_loops p.insns a.loops b.loops a.has_loops.loops b.has_loops.loops

  same_graph : a.graph ≡ b.graph
  same_graph = has_one_graph offsets p b.loops a.graph b.graph b.has_loops.loops (subst (λ (ls : List Loop). IsGraph offsets p ls a.graph) same_loops a.is_graph) b.is_graph

  late_as : IsTooLate p a.graph (edges_of offsets p a) r → IsTooLate p b.graph (edges_of offsets p b) r
  late_as late =
      subst (λ (g : List Point). IsTooLate p g (links p b.loops g 0 g) r) same_graph
      (subst (λ (ls : List Loop). IsTooLate p a.graph (links p ls a.graph 0 a.graph) r) same_loops late)

-- ---- one outcome
refusal_one : (offsets : Offsets) (p : XdpProgram) (r s : Refusal) → IsFirstRefusal offsets p r → IsFirstRefusal offsets p s → r ≡ s
refusal_one offsets p r s (inl a) (inl b) = (graph.has_one_outcome offsets p).refusal r s a b
refusal_one offsets p r s (inl a) (inr b) = absurd ((graph.has_one_outcome offsets p).never_both r a b.unfolds)
refusal_one offsets p r s (inr a) (inl b) = absurd ((graph.has_one_outcome offsets p).never_both s b a.unfolds)
refusal_one offsets p r s (inr a) (inr b) = late_one p b.unfolds.graph (edges_of offsets p b.unfolds) r s (late_as offsets p r a.unfolds b.unfolds a.late) b.late

refusal_alone : (offsets : Offsets) (p : XdpProgram) (r : Refusal) → IsFirstRefusal offsets p r → ¬ IsAccepted offsets p
refusal_alone offsets p r (inl a) accepted = (graph.has_one_outcome offsets p).never_both r a accepted.unfolds
refusal_alone offsets p r (inr a) accepted =
    let late = late_as offsets p r a.unfolds accepted.unfolds a.late in
    omega (arith, accepted.has_stages.within late.node late.inside, accepted.has_stages.few, late.beyond)

pub has_one_outcome : (offsets : Offsets) (p : XdpProgram) → HasOneOutcome offsets p
has_one_outcome offsets p = record { refusal = refusal_one offsets p; never_both = refusal_alone offsets p }
