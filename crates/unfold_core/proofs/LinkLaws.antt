-- The edges of a graph lead to later nodes of it, and to each node but the first.
use Rattle.std.proofs.Common.{◌≡◌, ℕ, zero, suc, ◌+◌, ◌<◌, ◌⊎◌, inl, inr, Bool, true, false, List, [], ◌∷◌, ◌++◌, length, get_or, Some, None, Result, Ok, Err, refl, sym, ◌∙◌, ap, subst, arith}
use Rattle.std.specs.Prelude.{All, if◌then◌else◌}
use Rattle.std.specs.List.{Contains}
use Rattle.std.proofs.lemmas.List.Elements.{All-nil, All-cons, All-head, All-tail, All-append}
use Rattle.xdp_machine.specs.bpf_isa.Text.{insn_at}
use Rattle.xdp_machine.specs.Program.{XdpProgram}
use Rattle.kind_core.specs.declared.kind.Offsets.{Offsets}
use Rattle.kind_core.specs.declared.kind.Offsets.TheVariants.{Fixed}
use Rattle.kind_core.specs.declared.kind.Kinds.{Kinds}
use Rattle.xdp_state.specs.declared.refusal.Why.{Why}
use Rattle.unfold_core.specs.declared.nesting.Loop.{Loop}
use Rattle.unfold_core.specs.declared.edges.Point.{Point}
use Rattle.unfold_core.specs.declared.links.Edge.{Edge}
use Rattle.unfold_core.specs.Loops.{AreLoops}
use Rattle.unfold_core.specs.Nodes.{GraphNode, IsNode, start}
use Rattle.unfold_core.specs.Edges.{leaving}
use Rattle.unfold_core.specs.EdgeLaws.{LeadsUp}
use Rattle.unfold_core.specs.Graphs.{same, met, arriving, first_point, ends, edges_from, leading, IsGraph}
use Rattle.unfold_core.specs.Pending.{number_of}
use Rattle.unfold_core.specs.Unfolding.{jumps_first, numbered, links}
use Rattle.unfold_core.specs.RunLaws.{edge}
use Rattle.unfold_core.specs.GraphLaws.{EdgesLeadOn, NodesAreReached}
use Rattle.unfold_core.proofs.NodeLaws.{nodes_are_ordered, start_is_node}
use Rattle.unfold_core.proofs.EdgesUp.{leaving_goes_up}
use Rattle.unfold_core.proofs.Arriving.{fine_of, same_itself, same_is}
use Rattle.unfold_core.proofs.Numbering.{start_is_first}
use Rattle.unfold_core.proofs.Reaching.{In, all_in, found_at, found_own, number_own, number_above, arriving_has, in_edges, numbered_at, in_links}

in_at : (es : List Point) (k : ℕ) (d : Point) → k < length es → In (get_or es k d) es
in_at [] k d below = absurd (omega arith)
in_at (e ∷ es) zero d below = inl refl
in_at (e ∷ es) (suc k) d below = inr (in_at es k d (omega arith))

-- ---- each edge leads on

-- the end of an edge is a node of the graph, at its number
pub end_at : (offsets : Offsets) (p : XdpProgram) (ls : List Loop) (g : List Point) (e : Point) → AreLoops p.insns ls → IsGraph offsets p ls g → In e (leading offsets p ls g) → IsNode ls e.node
    → (number_of ls e.node g < length g) × ((d : Point) → (get_or g (number_of ls e.node g) d).node ≡ e.node)
end_at offsets p ls g e loops h among s =
    let o = nodes_are_ordered ls loops.nested in
    let has = arriving_has ls e.node (λ k. Unit {0}) (λ k j x. tt) (leading offsets p ls g) e None among (same_itself ls e.node o s) tt in
    let there = found_at ls g e.node has.0 o (fine_of ls g h.ordered.nodes h.ordered.ascending) s (h.known e.node s ∙ has.1) in
    (there.0, λ d. (there.1 d).0)

ends_inside : (offsets : Offsets) (p : XdpProgram) (ls : List Loop) (g : List Point) (e : Point) → AreLoops p.insns ls → IsGraph offsets p ls g → In e (leading offsets p ls g) → IsNode ls e.node → number_of ls e.node g < length g
ends_inside offsets p ls g e loops h among s = (end_at offsets p ls g e loops h among s).0

numbered_all : (P : Edge → Type 0) (ls : List Loop) (g : List Point) (from : ℕ) (taken : Bool) (es : List Point) → All (λ e. (t : Bool) → P (edge from t (number_of ls e.node g))) es → All P (numbered ls g from taken es)
numbered_all P ls g from taken [] h = All-nil P
numbered_all P ls g from taken (e ∷ es) h =
    All-cons P (edge from taken (number_of ls e.node g)) (numbered ls g from true es) (All-head (λ x. (t : Bool) → P (edge from t (number_of ls x.node g))) e es h taken)
    (numbered_all P ls g from true es (All-tail (λ x. (t : Bool) → P (edge from t (number_of ls x.node g))) e es h))

pub links_all : (P : Edge → Type 0) (p : XdpProgram) (ls : List Loop) (g : List Point) (j : ℕ) (ns : List Point) (d : Point) → ((k : ℕ) → k < length ns → All P (numbered_at p ls g (j + k) (get_or ns k d))) → All P (links p ls g j ns)
links_all P p ls g j [] d h = All-nil P
links_all P p ls g j (n ∷ ns) d h =
    let number : j + 0 ≡ j = omega arith in
    All-append P (numbered_at p ls g j n) (links p ls g (j + 1) ns) (subst (λ i. All P (numbered_at p ls g i n)) number (h 0 (omega arith)))
    (links_all P p ls g (j + 1) ns d (λ k below. let next : j + suc k ≡ (j + 1) + k = omega arith in subst (λ i. All P (numbered_at p ls g i (get_or ns k d))) next (h (suc k) (omega arith))))

pub edges_lead_on : EdgesLeadOn
edges_lead_on offsets p ls g loops h = links_all (λ x. (x.from < x.to) × (x.to < length g)) p ls g 0 g (first_point Fixed ls) (λ k below.
    numbered_all (λ x. (x.from < x.to) × (x.to < length g)) ls g (0 + k) (jumps_first (get_or g k (first_point Fixed ls)).kinds (insn_at p.insns (get_or g k (first_point Fixed ls)).node.place)) (ends (leaving p ls (0 + k) (get_or g k (first_point Fixed ls)))) (by_result k below (leaving p ls (0 + k) (get_or g k (first_point Fixed ls))) refl))
  where
    by_result : (k : ℕ) → k < length g → (r : Result (List Point) Why) → leaving p ls (0 + k) (get_or g k (first_point Fixed ls)) ≡ r
        → All (λ e. (t : Bool) → ((edge (0 + k) t (number_of ls e.node g)).from < (edge (0 + k) t (number_of ls e.node g)).to) × ((edge (0 + k) t (number_of ls e.node g)).to < length g)) (ends r)
    by_result k below (Ok es) e = λ i c under t.
        let o = nodes_are_ordered ls loops.nested in
        let fine = fine_of ls g h.ordered.nodes h.ordered.ascending in
        let up = leaving_goes_up p ls (0 + k) (get_or g k (first_point Fixed ls)) es loops (h.ordered.nodes k (first_point Fixed ls) below) e i c under in
        let above = number_above ls g (get_or es i c).node k (first_point Fixed ls) o fine up.0 below up.1 in
        let among : In (get_or es i c) (edges_from p ls 0 g) = in_edges p ls 0 g k (first_point Fixed ls) (get_or es i c) below (subst (λ r. In (get_or es i c) (ends r)) (sym e) (in_at es i c under)) in
        (omega (arith, above), ends_inside offsets p ls g (get_or es i c) loops h (inr among) up.0)
    by_result k below (Err w) e = All-nil (λ x. (t : Bool) → ((edge (0 + k) t (number_of ls x.node g)).from < (edge (0 + k) t (number_of ls x.node g)).to) × ((edge (0 + k) t (number_of ls x.node g)).to < length g))

-- ---- an edge leads to each node but the first

-- what arrives comes from somewhere
arriving_source : (ls : List Loop) (n : GraphNode) (es : List Point) (k : Kinds) → arriving ls n None es ≡ Some k → (e : Point) × In e es × (same ls e.node n ≡ true)
arriving_source ls n [] k h = let bad : None ≡ Some k = h in absurd (cc)
arriving_source ls n (e ∷ es) k h = by_same (same ls e.node n) refl h (arriving_source ls n es k)
  where
    by_same : (b : Bool) → same ls e.node n ≡ b → arriving ls n (if b then Some (met None e.kinds) else None) es ≡ Some k → (arriving ls n None es ≡ Some k → (x : Point) × In x es × (same ls x.node n ≡ true))
        → (x : Point) × In x (e ∷ es) × (same ls x.node n ≡ true)
    by_same true g f later = (e, inl refl, g)
    by_same false g f later = let x = later f in (x.0, inr x.1, x.2)

in_parts : (e : Point) (xs ys : List Point) → In e (xs ++ ys) → In e xs ⊎ In e ys
in_parts e [] ys h = inr h
in_parts e (x ∷ xs) ys (inl h) = inl (inl h)
in_parts e (x ∷ xs) ys (inr h) = elim (in_parts e xs ys h) [ inl a ↦ inl (inr a) | inr b ↦ inr b ]

pub edge_source : (p : XdpProgram) (ls : List Loop) (j : ℕ) (g : List Point) (d e : Point) → In e (edges_from p ls j g) → (k : ℕ) × (k < length g) × In e (ends (leaving p ls (j + k) (get_or g k d)))
edge_source p ls j [] d e h = absurd h
edge_source p ls j (n ∷ g) d e h = by_part (in_parts e (ends (leaving p ls j n)) (edges_from p ls (j + 1) g) h) (edge_source p ls (j + 1) g d e)
  where
    by_part : In e (ends (leaving p ls j n)) ⊎ In e (edges_from p ls (j + 1) g) → (In e (edges_from p ls (j + 1) g) → (k : ℕ) × (k < length g) × In e (ends (leaving p ls ((j + 1) + k) (get_or g k d))))
        → (k : ℕ) × (k < suc (length g)) × In e (ends (leaving p ls (j + k) (get_or (n ∷ g) k d)))
    by_part (inl a) later = let number : j ≡ j + 0 = omega arith in (0, omega arith, subst (λ i. In e (ends (leaving p ls i n))) number a)
    by_part (inr b) later =
        let x = later b in
        let number : (j + 1) + x.0 ≡ j + suc x.0 = omega arith in
        (suc x.0, omega (arith, x.1), subst (λ i. In e (ends (leaving p ls i (get_or g x.0 d)))) number x.2)

numbered_in : (ls : List Loop) (g : List Point) (from : ℕ) (taken : Bool) (es : List Point) (e : Point) → In e es → (t : Bool) × Contains (numbered ls g from taken es) (edge from t (number_of ls e.node g))
numbered_in ls g from taken [] e h = absurd h
numbered_in ls g from taken (x ∷ es) e (inl h) = (taken, (0, omega arith, ap (λ y. edge from taken (number_of ls y.node g)) h))
numbered_in ls g from taken (x ∷ es) e (inr h) =
    let later = numbered_in ls g from true es e h in (later.0, (suc later.1.0, omega (arith, later.1.1), later.1.2))

-- the end of an edge at a node
reached_by : (offsets : Offsets) (p : XdpProgram) (ls : List Loop) (g : List Point) (k j : ℕ) (e : Point) (r : Result (List Point) Why) → AreLoops p.insns ls → IsGraph offsets p ls g → k < length g → j < length g → same ls e.node (get_or g k (first_point Fixed ls)).node ≡ true
    → leaving p ls (0 + j) (get_or g j (first_point Fixed ls)) ≡ r → In e (ends r) → (from : ℕ) × (taken : Bool) × Contains (links p ls g 0 g) (edge from taken k)
reached_by offsets p ls g k j e (Err w) loops h below lt t f among = absurd among
reached_by offsets p ls g k j e (Ok es) loops h below lt t f among =
    let d = first_point Fixed ls in
    let o = nodes_are_ordered ls loops.nested in
    let up : LeadsUp ls (get_or g j d) e = all_in (LeadsUp ls (get_or g j d)) es e (leaving_goes_up p ls (0 + j) (get_or g j d) es loops (h.ordered.nodes j d lt) f) among in
    let one : e.node ≡ (get_or g k d).node = same_is ls e.node (get_or g k d).node o up.0 (h.ordered.nodes k d below) t in
    let number : number_of ls e.node g ≡ k = ap (λ n. number_of ls n g) one ∙ number_own ls g k d o (fine_of ls g h.ordered.nodes h.ordered.ascending) below in
    let there : In e (ends (leaving p ls (0 + j) (get_or g j d))) = subst (λ r. In e (ends r)) (sym f) among in
    let listed = numbered_in ls g (0 + j) (jumps_first (get_or g j d).kinds (insn_at p.insns (get_or g j d).node.place)) (ends (leaving p ls (0 + j) (get_or g j d))) e there in
    (0 + j, listed.0, subst (λ i. Contains (links p ls g 0 g) (edge (0 + j) listed.0 i)) number (in_links p ls g 0 g j d (edge (0 + j) listed.0 (number_of ls e.node g)) lt listed.1))

from_somewhere : (offsets : Offsets) (p : XdpProgram) (ls : List Loop) (g : List Point) (k : ℕ) (e : Point) → AreLoops p.insns ls → IsGraph offsets p ls g → 0 < k → k < length g → In e (leading offsets p ls g) → same ls e.node (get_or g k (first_point Fixed ls)).node ≡ true
    → (from : ℕ) × (taken : Bool) × Contains (links p ls g 0 g) (edge from taken k)
from_somewhere offsets p ls g k e loops h some below (inl begin) t =
    let d = first_point Fixed ls in
    let o = nodes_are_ordered ls loops.nested in
    let there : same ls (start ls) (get_or g k d).node ≡ true = subst (λ x. same ls x.node (get_or g k d).node ≡ true) (sym begin) t in
    let one : start ls ≡ (get_or g k d).node = same_is ls (start ls) (get_or g k d).node o (start_is_node ls) (h.ordered.nodes k d below) there in
    let number : number_of ls (start ls) g ≡ k = ap (λ n. number_of ls n g) one ∙ number_own ls g k d o (fine_of ls g h.ordered.nodes h.ordered.ascending) below in
    absurd (omega (arith, number, start_is_first ls g, some))
from_somewhere offsets p ls g k e loops h some below (inr edges) t =
    let d = first_point Fixed ls in
    let from = edge_source p ls 0 g d e edges in
    reached_by offsets p ls g k from.0 e (leaving p ls (0 + from.0) (get_or g from.0 d)) loops h below from.1 t refl from.2

pub nodes_are_reached : NodesAreReached
nodes_are_reached offsets p ls g k loops h some below =
    let d = first_point Fixed ls in
    let n = (get_or g k d).node in
    let own = found_own ls g k d (nodes_are_ordered ls loops.nested) (fine_of ls g h.ordered.nodes h.ordered.ascending) below in
    let source = arriving_source ls n (leading offsets p ls g) (get_or g k d).kinds (sym (h.known n (h.ordered.nodes k d below)) ∙ own) in
    from_somewhere offsets p ls g k source.0 loops h some below source.1 source.2
