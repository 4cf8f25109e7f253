-- All kinds of a graph are of 11 registers and 64 slots.
use Rattle.std.proofs.Common.{◌≡◌, ℕ, zero, suc, ◌+◌, ◌<◌, inl, inr, true, false, List, length, get_or, Some, None, Ok, refl, sym, ◌∙◌, subst, arith}
use Rattle.std.specs.Prelude.{All, IfSome}
use Rattle.std.proofs.lemmas.List.{get_or_default}
use Rattle.std.proofs.lemmas.List.Elements.{All-cons}
use Rattle.std.proofs.lemmas.Bool.{cases_order}
use Rattle.xdp_machine.specs.Program.{XdpProgram}
use Rattle.kind_core.specs.declared.kind.Offsets.{Offsets}
use Rattle.kind_core.specs.declared.kind.Offsets.TheVariants.{Fixed}
use Rattle.kind_core.proofs.TransferLaws.{IsSized, joined_sized}
use Rattle.unfold_core.specs.declared.nesting.Loop.{Loop}
use Rattle.unfold_core.specs.declared.edges.Point.{Point}
use Rattle.unfold_core.specs.Loops.{AreLoops}
use Rattle.unfold_core.specs.Nodes.{IsNode, comes_before}
use Rattle.unfold_core.specs.Edges.{leaving}
use Rattle.unfold_core.specs.Graphs.{same, arriving, first_point, ends, edges_from, leading, AreOrdered, IsGraph}
use Rattle.unfold_core.proofs.NodeLaws.{nodes_are_ordered}
use Rattle.unfold_core.proofs.EdgesUp.{leaving_goes_up}
use Rattle.unfold_core.proofs.Arriving.{same_is, fine_of}
use Rattle.unfold_core.proofs.Reaching.{found_own, arriving_keeps, pass_at, all_edges}
use Rattle.unfold_core.proofs.EdgeParts.{leaving_sized}

start_sized : (offsets : Offsets) (ls : List Loop) → IsSized (first_point offsets ls).kinds
start_sized offsets ls = record { registers = refl; slots = refl }

-- what comes before a node of a list stands in front of it
in_front : (ls : List Loop) (g : List Point) (j k : ℕ) (d : Point) → AreOrdered ls g → j < length g → k < length g → comes_before ls (get_or g j d).node (get_or g k d).node ≡ true → j < k
in_front ls g j k d h lj lk before = elim (cases_order j k) [
  | inl e ↦ absurd (itself (subst (λ i. comes_before ls (get_or g i d).node (get_or g k d).node ≡ true) e before))
  | inr (inl lt) ↦ lt
  | inr (inr gt) ↦ absurd (itself ((nodes_are_ordered ls h.nested).transitive (get_or g k d).node (get_or g j d).node (get_or g k d).node (h.nodes k d lk) (h.nodes j d lj) (h.nodes k d lk) (h.ascending k j d gt lj) before))
]
  where
    itself : comes_before ls (get_or g k d).node (get_or g k d).node ≡ true → ⊥
    itself t = let never : comes_before ls (get_or g k d).node (get_or g k d).node ≡ false = (nodes_are_ordered ls h.nested).irreflexive (get_or g k d).node (h.nodes k d lk) in let bad : true ≡ false = sym t ∙ never in cc

sized_one : (offsets : Offsets) (p : XdpProgram) (ls : List Loop) (g : List Point) (k : ℕ) → AreLoops p.insns ls → IsGraph offsets p ls g → k < length g → ((j : ℕ) → j < k → IsSized (get_or g j (first_point Fixed ls)).kinds) → IsSized (get_or g k (first_point Fixed ls)).kinds
sized_one offsets p ls g k loops h below earlier =
    let d = first_point Fixed ls in
    let n = (get_or g k d).node in
    let s : IsNode ls n = h.ordered.nodes k d below in
    let o = nodes_are_ordered ls loops.nested in
    let is : Some (get_or g k d).kinds ≡ arriving ls n None (leading offsets p ls g) = sym (found_own ls g k d o (fine_of ls g h.ordered.nodes h.ordered.ascending) below) ∙ h.known n s in
    let all = All-cons (λ e. same ls e.node n ≡ true → IsSized e.kinds) (first_point offsets ls) (edges_from p ls 0 g) (λ t. start_sized offsets ls) (all_edges (λ e. same ls e.node n ≡ true → IsSized e.kinds) p ls 0 g d (λ j lt. by_node j lt (pass_at p ls 0 g j d h.pass lt))) in
    subst (λ r. IfSome r IsSized) (sym is) (arriving_keeps ls n IsSized joined_sized (leading offsets p ls g) None all tt)
  where
    by_node : (j : ℕ) → j < length g → (es : List Point) × (leaving p ls (0 + j) (get_or g j (first_point Fixed ls)) ≡ Ok es)
        → All (λ e. same ls e.node (get_or g k (first_point Fixed ls)).node ≡ true → IsSized e.kinds) (ends (leaving p ls (0 + j) (get_or g j (first_point Fixed ls))))
    by_node j lt (es, e) = subst (λ r. All (λ x. same ls x.node (get_or g k (first_point Fixed ls)).node ≡ true → IsSized x.kinds) (ends r)) (sym e) (λ i c under t.
        let d = first_point Fixed ls in
        let o = nodes_are_ordered ls loops.nested in
        let up = leaving_goes_up p ls (0 + j) (get_or g j d) es loops (h.ordered.nodes j d lt) e i c under in
        let one : (get_or es i c).node ≡ (get_or g k d).node = same_is ls (get_or es i c).node (get_or g k d).node o up.0 (h.ordered.nodes k d below) t in
        let front : j < k = in_front ls g j k d h.ordered lt below (subst (λ x. comes_before ls (get_or g j d).node x ≡ true) one up.1) in
        leaving_sized p ls (0 + j) (get_or g j d) es (earlier j front) e i c under)

sized_below : (offsets : Offsets) (p : XdpProgram) (ls : List Loop) (g : List Point) (n k : ℕ) → AreLoops p.insns ls → IsGraph offsets p ls g → k < n → k < length g → IsSized (get_or g k (first_point Fixed ls)).kinds
sized_below offsets p ls g zero k loops h lt below = absurd (omega arith)
sized_below offsets p ls g (suc n) k loops h lt below = sized_one offsets p ls g k loops h below (λ j under. sized_below offsets p ls g n j loops h (omega arith) (omega arith))

pub sized_at : (offsets : Offsets) (p : XdpProgram) (ls : List Loop) (g : List Point) (k : ℕ) (d : Point) → AreLoops p.insns ls → IsGraph offsets p ls g → k < length g → IsSized (get_or g k d).kinds
sized_at offsets p ls g k d loops h below =
    let lt : k < k + 1 = omega arith in subst (λ n. IsSized n.kinds) (get_or_default g k (first_point Fixed ls) d below) (sized_below offsets p ls g (k + 1) k loops h lt below)
