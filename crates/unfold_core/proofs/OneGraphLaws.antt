-- What unfolding answers is one thing: two answers hold the same node by node, since what arrives at a node comes from those before it.
use Rattle.std.proofs.Common.{◌≡◌, ℕ, suc, ◌+◌, ◌≤◌, ◌<◌, inl, inr, Bool, true, false, List, [], ◌∷◌, ◌++◌, length, get_or, Option, Some, None, Result, Ok, Err, refl, sym, ◌∙◌, ap, subst, arith}
use Rattle.std.specs.Prelude.{All, if◌then◌else◌}
use Rattle.std.proofs.lemmas.List.{append_assoc, append-nil, length-append}
use Rattle.std.proofs.lemmas.List.Elements.{All-nil, All-cons, All-head, All-tail}
use Rattle.xdp_machine.specs.Program.{XdpProgram}
use Rattle.kind_core.specs.declared.kind.Offsets.{Offsets}
use Rattle.kind_core.specs.declared.kind.Offsets.TheVariants.{Fixed}
use Rattle.kind_core.specs.declared.kind.Kinds.{Kinds}
use Rattle.xdp_state.specs.declared.refusal.Why.{Why}
use Rattle.xdp_state.specs.declared.refusal.Refusal.{Refusal}
use Rattle.unfold_core.specs.declared.nesting.Loop.{Loop}
use Rattle.unfold_core.specs.declared.edges.Point.{Point}
use Rattle.unfold_core.specs.Loops.{AreLoops}
use Rattle.unfold_core.specs.Nodes.{GraphNode, IsNode, comes_before}
use Rattle.unfold_core.specs.Laws.{IsStrictTotalOrder}
use Rattle.unfold_core.specs.Edges.{leaving}
use Rattle.unfold_core.specs.Graphs.{same, found, met, arriving, first_point, ends, edges_from, leading, Pass, IsGraph, IsRefused, IsFirstNode}
use Rattle.unfold_core.specs.GraphLaws.{HasOneGraph, HasOneRefusal, HasNotBoth}
use Rattle.unfold_core.proofs.NodeLaws.{nodes_are_ordered}
use Rattle.unfold_core.proofs.EdgesUp.{leaving_goes_up}
use Rattle.unfold_core.proofs.Arriving.{Fine, fine_of, fine_nodes, fine_left, fine_right, fine_before, same_not, same_nor, same_itself, same_is, found_skip, found_here, found_none, arriving_append}
use Rattle.unfold_core.proofs.Reaching.{In, all_edges, pass_at}

-- ---- what arrives at a node does not come from nodes after it

not_after : (ls : List Loop) (a b : GraphNode) → IsStrictTotalOrder ls → IsNode ls a → IsNode ls b → comes_before ls a b ≡ true → comes_before ls b a ≡ false
not_after ls a b o s t h = by_test (comes_before ls b a) refl
  where
    by_test : (c : Bool) → comes_before ls b a ≡ c → c ≡ false
    by_test true g = let both : comes_before ls a a ≡ true = o.transitive a b a s t s h g in let bad : true ≡ false = sym both ∙ o.irreflexive a s in absurd (cc)
    by_test false g = refl

arriving_none : (ls : List Loop) (n : GraphNode) (k : Option Kinds) (es : List Point) → All (λ e. same ls e.node n ≡ false) es → arriving ls n k es ≡ k
arriving_none ls n k [] h = refl
arriving_none ls n k (e ∷ es) h =
    ap (λ x. arriving ls n x es) (ap (λ b. if b then Some (met k e.kinds) else k) (All-head (λ x. same ls x.node n ≡ false) e es h)) ∙ arriving_none ls n k es (All-tail (λ x. same ls x.node n ≡ false) e es h)

edges_append : (p : XdpProgram) (ls : List Loop) (k : ℕ) (c x : List Point) → edges_from p ls k (c ++ x) ≡ edges_from p ls k c ++ edges_from p ls (k + length c) x
edges_append p ls k [] x = let number : k ≡ k + 0 = omega arith in ap (λ j. edges_from p ls j x) number
edges_append p ls k (n ∷ c) x =
    let number : (k + 1) + length c ≡ k + suc (length c) = omega arith in
    ap (λ xs. ends (leaving p ls k n) ++ xs) (edges_append p ls (k + 1) c x ∙ ap (λ j. edges_from p ls (k + 1) c ++ edges_from p ls j x) number)
    ∙ sym (append_assoc (ends (leaving p ls k n)) (edges_from p ls (k + 1) c) (edges_from p ls (k + suc (length c)) x))

edges_elsewhere : (p : XdpProgram) (ls : List Loop) (n : GraphNode) (j : ℕ) (x : List Point) → AreLoops p.insns ls → IsNode ls n → All (λ m. IsNode ls m.node) x → All (λ m. comes_before ls m.node n ≡ false) x
    → All (λ e. same ls e.node n ≡ false) (edges_from p ls j x)
edges_elsewhere p ls n j x loops s nodes behind = all_edges (λ e. same ls e.node n ≡ false) p ls j x (first_point Fixed ls) (λ k below. by_result k below (leaving p ls (j + k) (get_or x k (first_point Fixed ls))) refl)
  where
    by_same : (k : ℕ) → k < length x → (e : Point) → IsNode ls e.node → comes_before ls (get_or x k (first_point Fixed ls)).node e.node ≡ true → (b : Bool) → same ls e.node n ≡ b → b ≡ false
    by_same k below e t up true g =
        let one : e.node ≡ n = same_is ls e.node n (nodes_are_ordered ls loops.nested) t s g in
        let before : comes_before ls (get_or x k (first_point Fixed ls)).node n ≡ true = subst (λ y. comes_before ls (get_or x k (first_point Fixed ls)).node y ≡ true) one up in
        let bad : true ≡ false = sym before ∙ behind k (first_point Fixed ls) below in absurd (cc)
    by_same k below e t up false g = refl

    by_result : (k : ℕ) → k < length x → (r : Result (List Point) Why) → leaving p ls (j + k) (get_or x k (first_point Fixed ls)) ≡ r → All (λ e. same ls e.node n ≡ false) (ends r)
    by_result k below (Ok es) g = λ i d under.
        let up = leaving_goes_up p ls (j + k) (get_or x k (first_point Fixed ls)) es loops (nodes k (first_point Fixed ls) below) g i d under in
        by_same k below (get_or es i d) up.0 up.1 (same ls (get_or es i d).node n) refl
    by_result k below (Err w) g = All-nil (λ e. same ls e.node n ≡ false)

arriving_front : (offsets : Offsets) (p : XdpProgram) (ls : List Loop) (n : GraphNode) (c x : List Point) → AreLoops p.insns ls → IsNode ls n → All (λ m. IsNode ls m.node) x → All (λ m. comes_before ls m.node n ≡ false) x
    → arriving ls n None (leading offsets p ls (c ++ x)) ≡ arriving ls n None (leading offsets p ls c)
arriving_front offsets p ls n c x loops s nodes behind =
    ap (λ xs. arriving ls n None (first_point offsets ls ∷ xs)) (edges_append p ls 0 c x)
    ∙ arriving_append ls n None (leading offsets p ls c) (edges_from p ls (0 + length c) x)
    ∙ arriving_none ls n (arriving ls n None (leading offsets p ls c)) (edges_from p ls (0 + length c) x) (edges_elsewhere p ls n (0 + length c) x loops s nodes behind)

-- ---- half of an answer: nodes, of which all but the last may be done

Part : List Point → List Point → Type 0
Part [] [] = Unit {0}
Part [] (q ∷ []) = Unit {0}
Part [] (q ∷ r ∷ g) = ⊥
Part (x ∷ xs) [] = ⊥
Part (x ∷ xs) (a ∷ g) = (x ≡ a) × Part xs g

part_whole : (g : List Point) → Part g g
unfolding Part
part_whole [] = tt
part_whole (a ∷ g) = (refl, part_whole g)

part_last : (x : List Point) (q : Point) → Part x (x ++ q ∷ [])
unfolding Part
part_last [] q = tt
part_last (a ∷ x) q = (refl, part_last x q)

part_all : (P : Point → Type 0) (x g : List Point) → Part x g → All P g → All P x
unfolding Part
part_all P [] g h all = All-nil P
part_all P (x ∷ xs) [] h all = absurd h
part_all P (x ∷ xs) (a ∷ g) h all = All-cons P x xs (subst P (sym h.0) (All-head P a g all)) (part_all P xs g h.1 (All-tail P a g all))

record Half (offsets : Offsets) (p : XdpProgram) (ls : List Loop) (c x g : List Point) : Type 0 where
  loops : AreLoops p.insns ls
  fine : Fine ls (c ++ g)
  part : Part x g
  known : (n : GraphNode) (m : Point) → IsNode ls n → In m g → comes_before ls m.node n ≡ false → found ls n (c ++ g) ≡ arriving ls n None (leading offsets p ls (c ++ x))

found_middle : (ls : List Loop) (n : GraphNode) (c g : List Point) → All (λ a. comes_before ls a.node n ≡ true) c → found ls n (c ++ g) ≡ found ls n g
found_middle ls n [] g h = refl
found_middle ls n (a ∷ c) g h =
    found_skip ls n a (c ++ g) (same_not ls a.node n (All-head (λ x. comes_before ls x.node n ≡ true) a c h)) ∙ found_middle ls n c g (All-tail (λ x. comes_before ls x.node n ≡ true) a c h)

-- what is known at the next node arrives from those before
at_head : (offsets : Offsets) (p : XdpProgram) (ls : List Loop) (c x t : List Point) (a : Point) → Half offsets p ls c x (a ∷ t) → Some a.kinds ≡ arriving ls a.node None (leading offsets p ls c)
at_head offsets p ls c x t a h =
    let o = nodes_are_ordered ls h.loops.nested in
    let rest : Fine ls (a ∷ t) = fine_right ls c (a ∷ t) h.fine in
    let nodes : All (λ m. IsNode ls m.node) (a ∷ t) = fine_nodes ls (a ∷ t) rest in
    let behind : All (λ m. comes_before ls m.node a.node ≡ false) (a ∷ t) =
    All-cons (λ m. comes_before ls m.node a.node ≡ false) a t (o.irreflexive a.node rest.0) (λ k d below. not_after ls a.node (get_or t k d).node o rest.0 (fine_nodes ls t rest.2 k d below) (rest.1 k d below)) in
    sym (found_middle ls a.node c (a ∷ t) (fine_before ls c t a h.fine) ∙ found_here ls a.node a t (same_itself ls a.node o rest.0))
    ∙ h.known a.node a rest.0 (inl refl) (o.irreflexive a.node rest.0)
    ∙ arriving_front offsets p ls a.node c x h.loops rest.0 (part_all (λ m. IsNode ls m.node) x (a ∷ t) h.part nodes) (part_all (λ m. comes_before ls m.node a.node ≡ false) x (a ∷ t) h.part behind)

-- and nothing arrives at a node in front of the next
before_head : (offsets : Offsets) (p : XdpProgram) (ls : List Loop) (c y s : List Point) (b : Point) (n : GraphNode) → Half offsets p ls c y (b ∷ s) → IsNode ls n → All (λ a. comes_before ls a.node n ≡ true) c → comes_before ls n b.node ≡ true
    → arriving ls n None (leading offsets p ls c) ≡ None
before_head offsets p ls c y s b n h i front before =
    let o = nodes_are_ordered ls h.loops.nested in
    let rest : Fine ls (b ∷ s) = fine_right ls c (b ∷ s) h.fine in
    let nodes : All (λ m. IsNode ls m.node) (b ∷ s) = fine_nodes ls (b ∷ s) rest in
    let ahead : All (λ m. comes_before ls n m.node ≡ true) (b ∷ s) =
    All-cons (λ m. comes_before ls n m.node ≡ true) b s before (λ k d below. o.transitive n b.node (get_or s k d).node i rest.0 (fine_nodes ls s rest.2 k d below) before (rest.1 k d below)) in
    let behind : All (λ m. comes_before ls m.node n ≡ false) (b ∷ s) = λ k d below. not_after ls n (get_or (b ∷ s) k d).node o i (nodes k d below) (ahead k d below) in
    sym (arriving_front offsets p ls n c y h.loops i (part_all (λ m. IsNode ls m.node) y (b ∷ s) h.part nodes) (part_all (λ m. comes_before ls m.node n ≡ false) y (b ∷ s) h.part behind))
    ∙ sym (h.known n b i (inl refl) (All-head (λ m. comes_before ls m.node n ≡ false) b s behind))
    ∙ found_middle ls n c (b ∷ s) front
    ∙ found_none ls n (b ∷ s) (λ k d below. same_nor ls (get_or (b ∷ s) k d).node n (ahead k d below))

-- so neither next node comes before the other
never_before : (offsets : Offsets) (p : XdpProgram) (ls : List Loop) (c x y t s : List Point) (a b : Point) → Half offsets p ls c x (a ∷ t) → Half offsets p ls c y (b ∷ s) → comes_before ls a.node b.node ≡ false
never_before offsets p ls c x y t s a b h i = by_test (comes_before ls a.node b.node) refl
  where
    by_test : (r : Bool) → comes_before ls a.node b.node ≡ r → r ≡ false
    by_test true g =
        let bad : Some a.kinds ≡ None = at_head offsets p ls c x t a h ∙ before_head offsets p ls c y s b a.node i (fine_right ls c (a ∷ t) h.fine).0 (fine_before ls c t a h.fine) g in absurd (cc)
    by_test false g = refl

point : GraphNode → Kinds → Point
point n k = record { node = n; kinds = k }

same_point : (a b : Point) → a.node ≡ b.node → a.kinds ≡ b.kinds → a ≡ b
unfolding point
same_point a b e f = ap (λ n. point n a.kinds) e ∙ ap (λ k. point b.node k) f

heads_same : (offsets : Offsets) (p : XdpProgram) (ls : List Loop) (c x y t s : List Point) (a b : Point) → Half offsets p ls c x (a ∷ t) → Half offsets p ls c y (b ∷ s) → a ≡ b
heads_same offsets p ls c x y t s a b h i =
    let o = nodes_are_ordered ls h.loops.nested in
    let node : a.node ≡ b.node =
    o.total a.node b.node (fine_right ls c (a ∷ t) h.fine).0 (fine_right ls c (b ∷ s) i.fine).0 (never_before offsets p ls c x y t s a b h i) (never_before offsets p ls c y x s t b a i h) in
    let both : Some a.kinds ≡ Some b.kinds = at_head offsets p ls c x t a h ∙ ap (λ n. arriving ls n None (leading offsets p ls c)) node ∙ sym (at_head offsets p ls c y s b i) in
    let kinds : a.kinds ≡ b.kinds = cc in
    same_point a b node kinds

-- ---- graphs

half_graph : (offsets : Offsets) (p : XdpProgram) (ls : List Loop) (c g : List Point) → AreLoops p.insns ls → IsGraph offsets p ls (c ++ g) → Half offsets p ls c g g
half_graph offsets p ls c g loops h = record {
  loops = loops;
  fine = fine_of ls (c ++ g) h.ordered.nodes h.ordered.ascending;
  part = part_whole g;
  known = λ n m s among behind. h.known n s;
}

-- after the last node nothing arrives
graph_over : (offsets : Offsets) (p : XdpProgram) (ls : List Loop) (c y s : List Point) (b : Point) → IsGraph offsets p ls (c ++ []) → Half offsets p ls c y (b ∷ s) → ⊥
graph_over offsets p ls c y s b h i =
    let node = (fine_right ls c (b ∷ s) i.fine).0 in
    let whole : c ++ [] ≡ c = append-nil c in
    let none : found ls b.node (c ++ []) ≡ None = found_middle ls b.node c [] (fine_before ls c s b i.fine) in
    let bad : Some b.kinds ≡ None = at_head offsets p ls c y s b i ∙ ap (λ xs. arriving ls b.node None (leading offsets p ls xs)) (sym whole) ∙ sym (h.known b.node node) ∙ none in
    cc

step_to : (P : List Point → Type 0) (c g : List Point) (a b : Point) → a ≡ b → P (c ++ a ∷ g) → P ((c ++ b ∷ []) ++ g)
step_to P c g a b e h = subst P (sym (append_assoc c (b ∷ []) g)) (subst (λ x. P (c ++ x ∷ g)) e h)

graphs_same : (offsets : Offsets) (p : XdpProgram) (ls : List Loop) (c g h : List Point) → AreLoops p.insns ls → IsGraph offsets p ls (c ++ g) → IsGraph offsets p ls (c ++ h) → g ≡ h
graphs_same offsets p ls c [] [] loops x y = refl
graphs_same offsets p ls c [] (b ∷ h) loops x y = absurd (graph_over offsets p ls c (b ∷ h) h b x (half_graph offsets p ls c (b ∷ h) loops y))
graphs_same offsets p ls c (a ∷ g) [] loops x y = absurd (graph_over offsets p ls c (a ∷ g) g a y (half_graph offsets p ls c (a ∷ g) loops x))
graphs_same offsets p ls c (a ∷ g) (b ∷ h) loops x y =
    let head : a ≡ b = heads_same offsets p ls c (a ∷ g) (b ∷ h) g h a b (half_graph offsets p ls c (a ∷ g) loops x) (half_graph offsets p ls c (b ∷ h) loops y) in
    ap (λ z. z ∷ g) head ∙ ap (λ zs. b ∷ zs) (graphs_same offsets p ls (c ++ b ∷ []) g h loops (step_to (IsGraph offsets p ls) c g a b head x) (step_to (IsGraph offsets p ls) c h b b refl y))

pub has_one_graph : HasOneGraph
has_one_graph offsets p ls g h loops x y = graphs_same offsets p ls [] g h loops x y

-- ---- refusals

record First (offsets : Offsets) (p : XdpProgram) (ls : List Loop) (q : Point) (w : Why) (before : List Point) : Type 0 where
  fine : Fine ls (before ++ q ∷ [])
  pass : Pass p ls 0 before
  known : (n : GraphNode) → IsNode ls n → comes_before ls q.node n ≡ false → found ls n (before ++ q ∷ []) ≡ arriving ls n None (leading offsets p ls before)
  refused : IsRefused p ls (length before) q w

first_of : (offsets : Offsets) (p : XdpProgram) (ls : List Loop) (r : Refusal) → (h : IsFirstNode offsets p ls r) → First offsets p ls h.node r.why h.before
first_of offsets p ls r h = record { fine = fine_of ls (h.before ++ h.node ∷ []) h.ordered.nodes h.ordered.ascending; pass = h.pass; known = h.known; refused = h.refused }

in_last : (m q : Point) (x : List Point) (P : Point → Type 0) → P q → All P x → In m (x ++ q ∷ []) → P m
in_last m q [] P h all (inl e) = subst P e h
in_last m q [] P h all (inr bad) = absurd bad
in_last m q (a ∷ x) P h all (inl e) = subst P e (All-head P a x all)
in_last m q (a ∷ x) P h all (inr e) = in_last m q x P h (All-tail P a x all) e

half_first : (offsets : Offsets) (p : XdpProgram) (ls : List Loop) (c x : List Point) (q : Point) (w : Why) → AreLoops p.insns ls → First offsets p ls q w (c ++ x) → Half offsets p ls c x (x ++ q ∷ [])
half_first offsets p ls c x q w loops h =
    let whole : (c ++ x) ++ q ∷ [] ≡ c ++ (x ++ q ∷ []) = append_assoc c x (q ∷ []) in
    let fine : Fine ls (c ++ (x ++ q ∷ [])) = subst (Fine ls) whole h.fine in
    let rest : Fine ls (x ++ q ∷ []) = fine_right ls c (x ++ q ∷ []) fine in
    record {
      loops = loops;
      fine = fine;
      part = part_last x q;
      known = λ n m s among behind.
          ap (found ls n) (sym whole)
          ∙ h.known n s (last_behind n m s among behind rest);
    }
  where
    last_behind : (n : GraphNode) (m : Point) → IsNode ls n → In m (x ++ q ∷ []) → comes_before ls m.node n ≡ false → Fine ls (x ++ q ∷ []) → comes_before ls q.node n ≡ false
    last_behind n m s among behind rest = by_test (comes_before ls q.node n) refl
      where
        by_test : (b : Bool) → comes_before ls q.node n ≡ b → b ≡ false
        by_test true g =
            let o = nodes_are_ordered ls loops.nested in
            let node : IsNode ls q.node = (fine_right ls x (q ∷ []) rest).0 in
            let before : All (λ a. comes_before ls a.node n ≡ true) x = λ k d below.
            o.transitive (get_or x k d).node q.node n (fine_nodes ls x (fine_left ls x (q ∷ []) rest) k d below) node s (fine_before ls x [] q rest k d below) g in
            let bad : true ≡ false = sym (in_last m q x (λ a. comes_before ls a.node n ≡ true) g before among) ∙ behind in
            absurd (cc)
        by_test false g = refl

-- a node that is refused does not pass
not_passed : (p : XdpProgram) (ls : List Loop) (number : ℕ) (q : Point) (w : Why) (es : List Point) → IsRefused p ls number q w → number < 16384 → leaving p ls number q ≡ Ok es → ⊥
not_passed p ls number q w es (inl (at, size)) few e = omega (arith, at, few)
not_passed p ls number q w es (inr (below, refused)) few e = let bad : Err w ≡ Ok es = sym refused ∙ e in cc

few_before : (p : XdpProgram) (ls : List Loop) (number : ℕ) (q : Point) (w : Why) → IsRefused p ls number q w → number ≤ 16384
few_before p ls number q w (inl h) = omega (arith, h.0)
few_before p ls number q w (inr h) = omega (arith, h.0)

-- the node after c is refused in one answer, and passes in the other
one_passes : (offsets : Offsets) (p : XdpProgram) (ls : List Loop) (c x : List Point) (q a : Point) (w : Why) → First offsets p ls q w (c ++ []) → q ≡ a → Pass p ls 0 (c ++ a ∷ x) → length (c ++ a ∷ x) ≤ 16384 → ⊥
one_passes offsets p ls c x q a w h e pass few =
    let size = length-append c (a ∷ x) in
    let number : length (c ++ []) ≡ length c = ap length (append-nil c) in
    let below : length c < length (c ++ a ∷ x) = omega (arith, size) in
    let there = pass_at p ls 0 (c ++ a ∷ x) (length c) a pass below in
    let here : get_or (c ++ a ∷ x) (length c) a ≡ q = at_length c x a ∙ sym e in
    let same : length (c ++ []) ≡ 0 + length c = omega (arith, number) in
    not_passed p ls (length (c ++ [])) q w there.0 h.refused (omega (arith, number, below, few))
    (ap (λ k. leaving p ls k q) same ∙ ap (leaving p ls (0 + length c)) (sym here) ∙ there.1)
  where
    at_length : (c x : List Point) (a : Point) → get_or (c ++ a ∷ x) (length c) a ≡ a
    at_length [] x a = refl
    at_length (b ∷ c) x a = at_length c x a

refusals_same : (offsets : Offsets) (p : XdpProgram) (ls : List Loop) (c x y : List Point) (q r : Point) (w v : Why) → AreLoops p.insns ls → First offsets p ls q w (c ++ x) → First offsets p ls r v (c ++ y) → (q ≡ r) × (w ≡ v)
refusals_same offsets p ls c [] [] q r w v loops h i =
    let head : q ≡ r = heads_same offsets p ls c [] [] [] [] q r (half_first offsets p ls c [] q w loops h) (half_first offsets p ls c [] r v loops i) in
    (head, one_why h.refused (subst (λ x. IsRefused p ls (length (c ++ [])) x v) (sym head) i.refused))
  where
    one_why : IsRefused p ls (length (c ++ [])) q w → IsRefused p ls (length (c ++ [])) q v → w ≡ v
    one_why (inl a) (inl b) = a.1 ∙ sym b.1
    one_why (inl a) (inr b) = absurd (omega (arith, a.0, b.0))
    one_why (inr a) (inl b) = absurd (omega (arith, a.0, b.0))
    one_why (inr a) (inr b) = let both : Err w ≡ Err v = sym a.1 ∙ b.1 in cc
refusals_same offsets p ls c [] (b ∷ y) q r w v loops h i =
    let head : q ≡ b = heads_same offsets p ls c [] (b ∷ y) [] (y ++ r ∷ []) q b (half_first offsets p ls c [] q w loops h) (half_first offsets p ls c (b ∷ y) r v loops i) in
    absurd (one_passes offsets p ls c y q b w h head i.pass (few_before p ls (length (c ++ b ∷ y)) r v i.refused))
refusals_same offsets p ls c (a ∷ x) [] q r w v loops h i =
    let head : a ≡ r = heads_same offsets p ls c (a ∷ x) [] (x ++ q ∷ []) [] a r (half_first offsets p ls c (a ∷ x) q w loops h) (half_first offsets p ls c [] r v loops i) in
    absurd (one_passes offsets p ls c x r a v i (sym head) h.pass (few_before p ls (length (c ++ a ∷ x)) q w h.refused))
refusals_same offsets p ls c (a ∷ x) (b ∷ y) q r w v loops h i =
    let head : a ≡ b = heads_same offsets p ls c (a ∷ x) (b ∷ y) (x ++ q ∷ []) (y ++ r ∷ []) a b (half_first offsets p ls c (a ∷ x) q w loops h) (half_first offsets p ls c (b ∷ y) r v loops i) in
    refusals_same offsets p ls (c ++ b ∷ []) x y q r w v loops (step_to (First offsets p ls q w) c x a b head h) (step_to (First offsets p ls r v) c y b b refl i)

refusal : ℕ → Why → Refusal
refusal at why = record { at = at; why = why }

pub same_refusal : (r s : Refusal) → r.at ≡ s.at → r.why ≡ s.why → r ≡ s
unfolding refusal
same_refusal r s e f = ap (λ n. refusal n r.why) e ∙ ap (refusal s.at) f

pub has_one_refusal : HasOneRefusal
has_one_refusal offsets p ls r s loops h i =
    let one = refusals_same offsets p ls [] h.before i.before h.node i.node r.why s.why loops (first_of offsets p ls r h) (first_of offsets p ls s i) in
    same_refusal r s (h.at_is ∙ ap (λ q. q.node.place) one.0 ∙ sym i.at_is) one.1

never_both : (offsets : Offsets) (p : XdpProgram) (ls : List Loop) (c g y : List Point) (q : Point) (w : Why) → AreLoops p.insns ls → IsGraph offsets p ls (c ++ g) → First offsets p ls q w (c ++ y) → ⊥
never_both offsets p ls c [] [] q w loops h i = graph_over offsets p ls c [] [] q h (half_first offsets p ls c [] q w loops i)
never_both offsets p ls c [] (b ∷ y) q w loops h i = graph_over offsets p ls c (b ∷ y) (y ++ q ∷ []) b h (half_first offsets p ls c (b ∷ y) q w loops i)
never_both offsets p ls c (a ∷ g) [] q w loops h i =
    let head : a ≡ q = heads_same offsets p ls c (a ∷ g) [] g [] a q (half_graph offsets p ls c (a ∷ g) loops h) (half_first offsets p ls c [] q w loops i) in
    one_passes offsets p ls c g q a w i (sym head) h.pass h.few
never_both offsets p ls c (a ∷ g) (b ∷ y) q w loops h i =
    let head : a ≡ b = heads_same offsets p ls c (a ∷ g) (b ∷ y) g (y ++ q ∷ []) a b (half_graph offsets p ls c (a ∷ g) loops h) (half_first offsets p ls c (b ∷ y) q w loops i) in
    never_both offsets p ls (c ++ b ∷ []) g y q w loops (step_to (IsGraph offsets p ls) c g a b head h) (step_to (First offsets p ls q w) c y b b refl i)

pub has_not_both : HasNotBoth
has_not_both offsets p ls g r loops h i = never_both offsets p ls [] g i.before i.node r.why loops h (first_of offsets p ls r i)
