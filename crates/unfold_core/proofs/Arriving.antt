-- Lists of nodes in unfolded order, and what they hold at a node after the ends of more edges.
use Rattle.std.proofs.Common.{◌≡◌, ℕ, suc, ◌+◌, not, Bool, true, false, List, [], ◌∷◌, ◌++◌, length, get_or, Option, Some, None, refl, sym, ◌∙◌, ap, subst, arith}
use Rattle.std.specs.Prelude.{All, if◌then◌else◌}
use Rattle.std.specs.List.{AllPairs}
use Rattle.std.proofs.lemmas.List.Elements.{All-nil, All-cons, All-head, All-tail}
use Rattle.std.proofs.lemmas.List.Kept.{AllPairs-cons}
use Rattle.std.proofs.lemmas.Bool.{and_left, and_right, and_from, and_parts, not-true}
use Rattle.kind_core.specs.declared.kind.Kinds.{Kinds}
use Rattle.unfold_core.specs.declared.nesting.Loop.{Loop}
use Rattle.unfold_core.specs.declared.edges.Point.{Point}
use Rattle.unfold_core.specs.Loops.{Nests}
use Rattle.unfold_core.specs.Nodes.{GraphNode, IsNode, comes_before}
use Rattle.unfold_core.specs.Laws.{IsStrictTotalOrder}
use Rattle.unfold_core.specs.Graphs.{same, found, met, arrives, arriving, AreOrdered}
use Rattle.unfold_core.specs.Pending.{meets, put, with_end, with_ends}
use Rattle.unfold_core.proofs.NodeLaws.{nodes_are_ordered}

-- ---- parts of lists

pub all_left : (P : Point → Type 0) (xs ys : List Point) → All P (xs ++ ys) → All P xs
all_left P [] ys h = All-nil P
all_left P (x ∷ xs) ys h = All-cons P x xs (All-head P x (xs ++ ys) h) (all_left P xs ys (All-tail P x (xs ++ ys) h))

pub all_right : (P : Point → Type 0) (xs ys : List Point) → All P (xs ++ ys) → All P ys
all_right P [] ys h = h
all_right P (x ∷ xs) ys h = all_right P xs ys (All-tail P x (xs ++ ys) h)

-- ---- order, along a list

abbrev pub Later : List Loop → Point → Point → Type 0
Later ls a b = comes_before ls a.node b.node ≡ true

abbrev pub Fine : List Loop → List Point → Type 0
Fine ls [] = Unit {0}
Fine ls (p ∷ ps) = IsNode ls p.node × All (Later ls p) ps × Fine ls ps

pub fine_of : (ls : List Loop) (ps : List Point) → All (λ p. IsNode ls p.node) ps → AllPairs (λ p q. comes_before ls p.node q.node ≡ true) ps → Fine ls ps
fine_of ls [] s h = tt
fine_of ls (p ∷ ps) s h = (
  All-head (λ q. IsNode ls q.node) p ps s,
  λ k d below. h 0 (suc k) d (omega arith) (omega arith),
  fine_of ls ps (All-tail (λ q. IsNode ls q.node) p ps s) (λ i j d up below. h (suc i) (suc j) d (omega arith) (omega arith)),
)

pub fine_nodes : (ls : List Loop) (ps : List Point) → Fine ls ps → All (λ p. IsNode ls p.node) ps
fine_nodes ls [] h = All-nil (λ p. IsNode ls p.node)
fine_nodes ls (p ∷ ps) h = All-cons (λ q. IsNode ls q.node) p ps h.0 (fine_nodes ls ps h.2)

fine_pairs : (ls : List Loop) (ps : List Point) → Fine ls ps → AllPairs (λ p q. comes_before ls p.node q.node ≡ true) ps
fine_pairs ls [] h = λ i j d up below. absurd (omega arith)
fine_pairs ls (p ∷ ps) h = AllPairs-cons (λ q r. comes_before ls q.node r.node ≡ true) p ps h.1 (fine_pairs ls ps h.2)

pub ordered_of : (ls : List Loop) (ps : List Point) → AllPairs Nests ls → Fine ls ps → AreOrdered ls ps
ordered_of ls ps n h = record { nested = n; nodes = fine_nodes ls ps h; ascending = fine_pairs ls ps h }

pub fine_left : (ls : List Loop) (xs ys : List Point) → Fine ls (xs ++ ys) → Fine ls xs
fine_left ls [] ys h = tt
fine_left ls (x ∷ xs) ys h = (h.0, all_left (Later ls x) xs ys h.1, fine_left ls xs ys h.2)

pub fine_right : (ls : List Loop) (xs ys : List Point) → Fine ls (xs ++ ys) → Fine ls ys
fine_right ls [] ys h = h
fine_right ls (x ∷ xs) ys h = fine_right ls xs ys h.2

-- all that stands in front comes before
pub fine_before : (ls : List Loop) (g w : List Point) (q : Point) → Fine ls (g ++ q ∷ w) → All (λ a. comes_before ls a.node q.node ≡ true) g
fine_before ls [] w q h = All-nil (λ a. comes_before ls a.node q.node ≡ true)
fine_before ls (a ∷ g) w q h =
    All-cons (λ b. comes_before ls b.node q.node ≡ true) a g (All-head (Later ls a) q w (all_right (Later ls a) g (q ∷ w) h.1)) (fine_before ls g w q h.2)

-- ---- the same node

pub same_not : (ls : List Loop) (a b : GraphNode) → comes_before ls a b ≡ true → same ls a b ≡ false
same_not ls a b h = and_left (not (comes_before ls a b)) (not (comes_before ls b a)) (ap not h)

pub same_nor : (ls : List Loop) (a b : GraphNode) → comes_before ls b a ≡ true → same ls a b ≡ false
same_nor ls a b h = and_right (not (comes_before ls a b)) (not (comes_before ls b a)) (ap not h)

same_yes : (ls : List Loop) (a b : GraphNode) → comes_before ls a b ≡ false → comes_before ls b a ≡ false → same ls a b ≡ true
same_yes ls a b h k = and_from (not (comes_before ls a b)) (not (comes_before ls b a)) (ap not h) (ap not k)

pub same_itself : (ls : List Loop) (a : GraphNode) → IsStrictTotalOrder ls → IsNode ls a → same ls a a ≡ true
same_itself ls a o s = same_yes ls a a (o.irreflexive a s) (o.irreflexive a s)

pub same_is : (ls : List Loop) (a b : GraphNode) → IsStrictTotalOrder ls → IsNode ls a → IsNode ls b → same ls a b ≡ true → a ≡ b
same_is ls a b o s t h =
    let parts = and_parts (not (comes_before ls a b)) (not (comes_before ls b a)) h in
    o.total a b s t (not-true (comes_before ls a b) parts.0) (not-true (comes_before ls b a) parts.1)

-- ---- what a list holds

pub found_skip : (ls : List Loop) (n : GraphNode) (p : Point) (ps : List Point) → same ls p.node n ≡ false → found ls n (p ∷ ps) ≡ found ls n ps
found_skip ls n p ps h = ap (λ b. if b then Some p.kinds else found ls n ps) h

pub found_here : (ls : List Loop) (n : GraphNode) (p : Point) (ps : List Point) → same ls p.node n ≡ true → found ls n (p ∷ ps) ≡ Some p.kinds
found_here ls n p ps h = ap (λ b. if b then Some p.kinds else found ls n ps) h

pub found_none : (ls : List Loop) (n : GraphNode) (ps : List Point) → All (λ q. same ls q.node n ≡ false) ps → found ls n ps ≡ None
found_none ls n [] h = refl
found_none ls n (p ∷ ps) h =
    found_skip ls n p ps (All-head (λ q. same ls q.node n ≡ false) p ps h) ∙ found_none ls n ps (All-tail (λ q. same ls q.node n ≡ false) p ps h)

-- ---- the end of one more edge

with_end_all : (ls : List Loop) (Q : GraphNode → Type 0) (ps : List Point) (e : Point) → All (λ p. Q p.node) ps → Q e.node → All (λ p. Q p.node) (with_end ls ps e)
with_end_all ls Q [] e h q = All-cons (λ p. Q p.node) e [] q (All-nil (λ p. Q p.node))
with_end_all ls Q (p ∷ ps) e h q = by_first (with_end_all ls Q ps e (All-tail (λ r. Q r.node) p ps h) q) (comes_before ls p.node e.node)
  where
    by_second : (b : Bool) → All (λ r. Q r.node) (if b then e ∷ p ∷ ps else meets p e ∷ ps)
    by_second true = All-cons (λ r. Q r.node) e (p ∷ ps) q h
    by_second false = All-cons (λ r. Q r.node) (meets p e) ps (All-head (λ r. Q r.node) p ps h) (All-tail (λ r. Q r.node) p ps h)

    by_first : All (λ r. Q r.node) (with_end ls ps e) → (b : Bool) → All (λ r. Q r.node) (if b then p ∷ with_end ls ps e else put ls e (p ∷ ps))
    by_first later true = All-cons (λ r. Q r.node) p (with_end ls ps e) (All-head (λ r. Q r.node) p ps h) later
    by_first later false = by_second (comes_before ls e.node p.node)

with_end_fine : (ls : List Loop) (ps : List Point) (e : Point) → IsStrictTotalOrder ls → Fine ls ps → IsNode ls e.node → Fine ls (with_end ls ps e)
with_end_fine ls [] e o h s = (s, All-nil (Later ls e), tt)
with_end_fine ls (p ∷ ps) e o h s = by_first (with_end_fine ls ps e o h.2 s) (comes_before ls p.node e.node) refl
  where
    by_second : (b : Bool) → comes_before ls e.node p.node ≡ b → Fine ls (if b then e ∷ p ∷ ps else meets p e ∷ ps)
    by_second true k = (
      s,
      All-cons (Later ls e) p ps k (λ i d below. o.transitive e.node p.node (get_or ps i d).node s h.0 (fine_nodes ls ps h.2 i d below) k (h.1 i d below)),
      h,
    )
    by_second false k = h

    by_first : Fine ls (with_end ls ps e) → (b : Bool) → comes_before ls p.node e.node ≡ b → Fine ls (if b then p ∷ with_end ls ps e else put ls e (p ∷ ps))
    by_first later true g = (h.0, with_end_all ls (λ n. comes_before ls p.node n ≡ true) ps e h.1 g, later)
    by_first later false g = by_second (comes_before ls e.node p.node) refl

pub with_end_ordered : (ls : List Loop) (ps : List Point) (e : Point) → AreOrdered ls ps → IsNode ls e.node → AreOrdered ls (with_end ls ps e)
with_end_ordered ls ps e h s = ordered_of ls (with_end ls ps e) h.nested (with_end_fine ls ps e (nodes_are_ordered ls h.nested) (fine_of ls ps h.nodes h.ascending) s)

-- other nodes have what they had
found_other : (ls : List Loop) (n : GraphNode) (ps : List Point) (e : Point) → IsStrictTotalOrder ls → Fine ls ps → IsNode ls e.node → same ls e.node n ≡ false → found ls n (with_end ls ps e) ≡ found ls n ps
found_other ls n [] e o h s differ = found_skip ls n e [] differ
found_other ls n (p ∷ ps) e o h s differ = by_first (found_other ls n ps e o h.2 s differ) (comes_before ls p.node e.node) refl
  where
    by_second : comes_before ls p.node e.node ≡ false → (b : Bool) → comes_before ls e.node p.node ≡ b → found ls n (if b then e ∷ p ∷ ps else meets p e ∷ ps) ≡ found ls n (p ∷ ps)
    by_second g true k = found_skip ls n e (p ∷ ps) differ
    by_second g false k =
        let nor : same ls p.node n ≡ false = subst (λ m. same ls m n ≡ false) (sym (o.total p.node e.node h.0 s g k)) differ in
        found_skip ls n (meets p e) ps nor ∙ sym (found_skip ls n p ps nor)

    by_first : found ls n (with_end ls ps e) ≡ found ls n ps → (b : Bool) → comes_before ls p.node e.node ≡ b
        → found ls n (if b then p ∷ with_end ls ps e else put ls e (p ∷ ps)) ≡ found ls n (p ∷ ps)
    by_first later true g = ap (λ k. if same ls p.node n then Some p.kinds else k) later
    by_first later false g = by_second g (comes_before ls e.node p.node) refl

-- and at its own node what it brings meets what was there
found_there : (ls : List Loop) (ps : List Point) (e : Point) → IsStrictTotalOrder ls → Fine ls ps → IsNode ls e.node → found ls e.node (with_end ls ps e) ≡ Some (met (found ls e.node ps) e.kinds)
found_there ls [] e o h s = found_here ls e.node e [] (same_itself ls e.node o s)
found_there ls (p ∷ ps) e o h s = by_first (found_there ls ps e o h.2 s) (comes_before ls p.node e.node) refl
  where
    by_second : comes_before ls p.node e.node ≡ false → (b : Bool) → comes_before ls e.node p.node ≡ b
        → found ls e.node (if b then e ∷ p ∷ ps else meets p e ∷ ps) ≡ Some (met (found ls e.node (p ∷ ps)) e.kinds)
    by_second g true k =
        let none : found ls e.node (p ∷ ps) ≡ None =
        found_none ls e.node (p ∷ ps) (All-cons (λ q. same ls q.node e.node ≡ false) p ps (same_nor ls p.node e.node k)
        (λ i d below. same_nor ls (get_or ps i d).node e.node (o.transitive e.node p.node (get_or ps i d).node s h.0 (fine_nodes ls ps h.2 i d below) k (h.1 i d below)))) in
        found_here ls e.node e (p ∷ ps) (same_itself ls e.node o s) ∙ sym (ap (λ x. Some (met x e.kinds)) none)
    by_second g false k =
        found_here ls e.node (meets p e) ps (same_yes ls p.node e.node g k) ∙ sym (ap (λ x. Some (met x e.kinds)) (found_here ls e.node p ps (same_yes ls p.node e.node g k)))

    by_first : found ls e.node (with_end ls ps e) ≡ Some (met (found ls e.node ps) e.kinds) → (b : Bool) → comes_before ls p.node e.node ≡ b
        → found ls e.node (if b then p ∷ with_end ls ps e else put ls e (p ∷ ps)) ≡ Some (met (found ls e.node (p ∷ ps)) e.kinds)
    by_first later true g =
        found_skip ls e.node p (with_end ls ps e) (same_not ls p.node e.node g) ∙ later
        ∙ ap (λ x. Some (met x e.kinds)) (sym (found_skip ls e.node p ps (same_not ls p.node e.node g)))
    by_first later false g = by_second g (comes_before ls e.node p.node) refl

found_with : (ls : List Loop) (n : GraphNode) (ps : List Point) (e : Point) → IsStrictTotalOrder ls → Fine ls ps → IsNode ls e.node → IsNode ls n → found ls n (with_end ls ps e) ≡ arrives ls n (found ls n ps) e
found_with ls n ps e o h s t = by_same (same ls e.node n) refl
  where
    by_same : (b : Bool) → same ls e.node n ≡ b → found ls n (with_end ls ps e) ≡ (if b then Some (met (found ls n ps) e.kinds) else found ls n ps)
    by_same true g = subst (λ m. found ls m (with_end ls ps e) ≡ Some (met (found ls m ps) e.kinds)) (same_is ls e.node n o s t g) (found_there ls ps e o h s)
    by_same false g = found_other ls n ps e o h s g

-- ---- the ends of more edges

pub ends_fine : (ls : List Loop) (ps es : List Point) → IsStrictTotalOrder ls → Fine ls ps → All (λ e. IsNode ls e.node) es → Fine ls (with_ends ls ps es)
ends_fine ls ps [] o h s = h
ends_fine ls ps (e ∷ es) o h s =
    ends_fine ls (with_end ls ps e) es o (with_end_fine ls ps e o h (All-head (λ x. IsNode ls x.node) e es s)) (All-tail (λ x. IsNode ls x.node) e es s)

pub ends_found : (ls : List Loop) (n : GraphNode) (ps es : List Point) → IsStrictTotalOrder ls → Fine ls ps → All (λ e. IsNode ls e.node) es → IsNode ls n
    → found ls n (with_ends ls ps es) ≡ arriving ls n (found ls n ps) es
ends_found ls n ps [] o h s t = refl
ends_found ls n ps (e ∷ es) o h s t =
    let first = All-head (λ x. IsNode ls x.node) e es s in
    ends_found ls n (with_end ls ps e) es o (with_end_fine ls ps e o h first) (All-tail (λ x. IsNode ls x.node) e es s) t
    ∙ ap (λ k. arriving ls n k es) (found_with ls n ps e o h first t)

-- what comes before stays in front
with_end_after : (ls : List Loop) (h ps : List Point) (e : Point) → All (λ a. comes_before ls a.node e.node ≡ true) h → with_end ls (h ++ ps) e ≡ h ++ with_end ls ps e
with_end_after ls [] ps e before = refl
with_end_after ls (a ∷ h) ps e before =
    ap (λ b. if b then a ∷ with_end ls (h ++ ps) e else put ls e (a ∷ (h ++ ps))) (All-head (λ x. comes_before ls x.node e.node ≡ true) a h before)
    ∙ ap (λ xs. a ∷ xs) (with_end_after ls h ps e (All-tail (λ x. comes_before ls x.node e.node ≡ true) a h before))

pub with_ends_after : (ls : List Loop) (h ps es : List Point) → All (λ e. All (λ a. comes_before ls a.node e.node ≡ true) h) es → with_ends ls (h ++ ps) es ≡ h ++ with_ends ls ps es
with_ends_after ls h ps [] before = refl
with_ends_after ls h ps (e ∷ es) before =
    ap (λ xs. with_ends ls xs es) (with_end_after ls h ps e (All-head (λ x. All (λ a. comes_before ls a.node x.node ≡ true) h) e es before))
    ∙ with_ends_after ls h (with_end ls ps e) es (All-tail (λ x. All (λ a. comes_before ls a.node x.node ≡ true) h) e es before)

pub arriving_append : (ls : List Loop) (n : GraphNode) (k : Option Kinds) (xs ys : List Point) → arriving ls n k (xs ++ ys) ≡ arriving ls n (arriving ls n k xs) ys
arriving_append ls n k [] ys = refl
arriving_append ls n k (x ∷ xs) ys = arriving_append ls n (arrives ls n k x) xs ys

-- ---- ends that are added one after the other

-- what is pending so far, with what is left
pub record IsAdding (ls : List Loop) (all now left : List Point) (len : ℕ) : Type 0 where
  pub same : with_ends ls now left ≡ all
  pub ordered : AreOrdered ls now
  pub nodes : All (λ e. IsNode ls e.node) left
  pub counted : len ≡ length left

pub adding_more : (ls : List Loop) (all now next left rest : List Point) (e : Point) (len more : ℕ) → IsAdding ls all now left len → left ≡ e ∷ rest → more + 1 ≡ len → next ≡ with_end ls now e → IsAdding ls all next rest more
adding_more ls all now next left rest e len more h step counted is =
    let nodes : All (λ x. IsNode ls x.node) (e ∷ rest) = subst (All (λ x. IsNode ls x.node)) step h.nodes in
    record {
      same = ap (λ xs. with_ends ls xs rest) is ∙ ap (with_ends ls now) (sym step) ∙ h.same;
      ordered = subst (AreOrdered ls) (sym is) (with_end_ordered ls now e h.ordered (All-head (λ x. IsNode ls x.node) e rest nodes));
      nodes = All-tail (λ x. IsNode ls x.node) e rest nodes;
      counted = let size = ap length step in omega (arith, h.counted, counted, size);
    }

pub adding_head : (ls : List Loop) (all now left rest : List Point) (e : Point) (len : ℕ) → IsAdding ls all now left len → left ≡ e ∷ rest → IsNode ls e.node
adding_head ls all now left rest e len h step = All-head (λ x. IsNode ls x.node) e rest (subst (All (λ x. IsNode ls x.node)) step h.nodes)

pub adding_ended : (ls : List Loop) (all now left : List Point) (len : ℕ) → IsAdding ls all now left len → len ≡ 0 → now ≡ all
adding_ended ls all now [] len h e = h.same
adding_ended ls all now (x ∷ left) len h e = absurd (omega (arith, h.counted, e))
