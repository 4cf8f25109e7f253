-- What is known at a node is what is known on the edges that lead there, joined.
use Rattle.std.proofs.Common.{◌≡◌, ℕ, ◌+◌, ◌<◌, Bool, true, false, List, [], ◌∷◌, length, get_or, Some, None, Ok, refl, sym, ◌∙◌, subst}
use Rattle.std.specs.Prelude.{fold, if◌then◌else◌, All}
use Rattle.std.proofs.lemmas.List.Elements.{All-nil, All-cons, All-head, All-tail, All-weaker}
use Rattle.xdp_machine.specs.Program.{XdpProgram}
use Rattle.kind_core.specs.declared.kind.Offsets.{Offsets}
use Rattle.kind_core.specs.declared.kind.Offsets.TheVariants.{Fixed}
use Rattle.kind_core.specs.declared.kind.Kinds.{Kinds}
use Rattle.kind_core.specs.Joins.{joined}
use Rattle.kind_core.proofs.TransferLaws.{IsSized}
use Rattle.unfold_core.specs.declared.nesting.Loop.{Loop}
use Rattle.unfold_core.specs.declared.edges.Point.{Point}
use Rattle.unfold_core.specs.Nodes.{GraphNode}
use Rattle.unfold_core.specs.Loops.{AreLoops}
use Rattle.unfold_core.specs.Edges.{leaving}
use Rattle.unfold_core.specs.Graphs.{same, arriving, first_point, ends, edges_from, leading, IsGraph}
use Rattle.unfold_core.specs.GraphLaws.{brought, HaveAll, KindsAreJoined}
use Rattle.unfold_core.proofs.NodeLaws.{nodes_are_ordered}
use Rattle.unfold_core.proofs.Arriving.{fine_of}
use Rattle.unfold_core.proofs.Reaching.{found_own, pass_at, all_edges}
use Rattle.unfold_core.proofs.EdgeParts.{leaving_sized}
use Rattle.unfold_core.proofs.SizedGraph.{sized_at}

joined_from : (ls : List Loop) (n : GraphNode) (es : List Point) (j k : Kinds) → arriving ls n (Some j) es ≡ Some k → k ≡ fold joined j (brought ls n es)
joined_from ls n [] j k h = let e : j ≡ k = cc h in sym e
joined_from ls n (e ∷ es) j k h = by (same ls e.node n) h (joined_from ls n es (joined j e.kinds) k) (joined_from ls n es j k)
  where
    by : (b : Bool) → arriving ls n (if b then Some (joined j e.kinds) else Some j) es ≡ Some k → (arriving ls n (Some (joined j e.kinds)) es ≡ Some k → k ≡ fold joined (joined j e.kinds) (brought ls n es))
        → (arriving ls n (Some j) es ≡ Some k → k ≡ fold joined j (brought ls n es)) → k ≡ fold joined j (if b then e.kinds ∷ brought ls n es else brought ls n es)
    by true g more other = more g
    by false g more other = other g

joined_first : (ls : List Loop) (n : GraphNode) (es : List Point) (k : Kinds) → arriving ls n None es ≡ Some k → (j : Kinds) × (js : List Kinds) × (brought ls n es ≡ j ∷ js) × (k ≡ fold joined j js)
joined_first ls n [] k h = absurd (cc h)
joined_first ls n (e ∷ es) k h = by (same ls e.node n) h (joined_first ls n es k)
  where
    by : (b : Bool) → arriving ls n (if b then Some e.kinds else None) es ≡ Some k → (arriving ls n None es ≡ Some k → (j : Kinds) × (js : List Kinds) × (brought ls n es ≡ j ∷ js) × (k ≡ fold joined j js))
        → (j : Kinds) × (js : List Kinds) × ((if b then e.kinds ∷ brought ls n es else brought ls n es) ≡ j ∷ js) × (k ≡ fold joined j js)
    by true g other = (e.kinds, brought ls n es, refl, joined_from ls n es e.kinds k g)
    by false g other = other g

have_all : (k : Kinds) → IsSized k → HaveAll k
have_all k h = (h.registers, h.slots)

brought_all : (ls : List Loop) (n : GraphNode) (es : List Point) → All (λ e. HaveAll e.kinds) es → All HaveAll (brought ls n es)
brought_all ls n [] h = All-nil HaveAll
brought_all ls n (e ∷ es) h = by (same ls e.node n) (brought_all ls n es (All-tail (λ x. HaveAll x.kinds) e es h))
  where
    by : (b : Bool) → All HaveAll (brought ls n es) → All HaveAll (if b then e.kinds ∷ brought ls n es else brought ls n es)
    by true rest = All-cons HaveAll e.kinds (brought ls n es) (All-head (λ x. HaveAll x.kinds) e es h) rest
    by false rest = rest

leading_all : (offsets : Offsets) (p : XdpProgram) (ls : List Loop) (g : List Point) → AreLoops p.insns ls → IsGraph offsets p ls g → All (λ e. HaveAll e.kinds) (leading offsets p ls g)
leading_all offsets p ls g loops h =
    All-cons (λ e. HaveAll e.kinds) (first_point offsets ls) (edges_from p ls 0 g) (refl, refl)
    (all_edges (λ e. HaveAll e.kinds) p ls 0 g (first_point Fixed ls) (λ j lt. by_node j lt (pass_at p ls 0 g j (first_point Fixed ls) h.pass lt)))
  where
    by_node : (j : ℕ) → j < length g → (es : List Point) × (leaving p ls (0 + j) (get_or g j (first_point Fixed ls)) ≡ Ok es) → All (λ e. HaveAll e.kinds) (ends (leaving p ls (0 + j) (get_or g j (first_point Fixed ls))))
    by_node j lt (es, e) = subst (λ r. All (λ x. HaveAll x.kinds) (ends r)) (sym e)
        (All-weaker (λ x. IsSized x.kinds) (λ x. HaveAll x.kinds) (λ x. have_all x.kinds) es (leaving_sized p ls (0 + j) (get_or g j (first_point Fixed ls)) es (sized_at offsets p ls g j (first_point Fixed ls) loops h lt) e))

pub kinds_are_joined : KindsAreJoined
kinds_are_joined offsets p ls g k d loops h below =
    let n = (get_or g k d).node in
    let x = joined_first ls n (leading offsets p ls g) (get_or g k d).kinds
    (sym (h.known n (h.ordered.nodes k d below)) ∙ found_own ls g k d (nodes_are_ordered ls h.ordered.nested) (fine_of ls g h.ordered.nodes h.ordered.ascending) below) in
    (x.0, x.1, x.2, x.3, subst (All HaveAll) x.2 (brought_all ls n (leading offsets p ls g) (leading_all offsets p ls g loops h)))
