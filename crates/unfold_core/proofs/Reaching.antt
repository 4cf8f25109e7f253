-- What a graph holds at the ends of its edges.
use Rattle.std.proofs.Common.{◌≡◌, ℕ, zero, suc, ◌+◌, ◌<◌, ◌⊎◌, inl, inr, Bool, true, false, List, [], ◌∷◌, ◌++◌, length, get_or, Option, Some, None, Ok, refl, sym, ◌∙◌, ap, subst, arith}
use Rattle.std.specs.Prelude.{All, IfSome, if◌then◌else◌}
use Rattle.std.specs.List.{Contains}
use Rattle.std.proofs.lemmas.List.Elements.{All-head, All-tail, All-nil, All-append, Contains-append_left, Contains-append_right}
use Rattle.xdp_machine.specs.bpf_isa.Text.{insn_at}
use Rattle.xdp_machine.specs.Program.{XdpProgram}
use Rattle.kind_core.specs.declared.kind.Kinds.{Kinds}
use Rattle.kind_core.specs.Joins.{joined}
use Rattle.unfold_core.specs.declared.nesting.Loop.{Loop}
use Rattle.unfold_core.specs.declared.edges.Point.{Point}
use Rattle.unfold_core.specs.declared.links.Edge.{Edge}
use Rattle.unfold_core.specs.Nodes.{GraphNode, IsNode, comes_before}
use Rattle.unfold_core.specs.Laws.{IsStrictTotalOrder}
use Rattle.unfold_core.specs.Edges.{leaving}
use Rattle.unfold_core.specs.Graphs.{same, AreOrdered, found, met, arrives, arriving, ends, edges_from, Pass}
use Rattle.unfold_core.specs.Pending.{number_of}
use Rattle.unfold_core.specs.Unfolding.{jumps_first, numbered, links}
use Rattle.unfold_core.proofs.NodeLaws.{nodes_are_ordered}
use Rattle.unfold_core.proofs.Arriving.{Fine, fine_of, fine_nodes, same_not, same_itself, same_is, found_skip, found_here}

abbrev pub In : Point → List Point → Type 0
In e [] = ⊥
In e (x ∷ xs) = (x ≡ e) ⊎ In e xs

pub in_left : (e : Point) (xs ys : List Point) → In e xs → In e (xs ++ ys)
in_left e [] ys h = absurd h
in_left e (x ∷ xs) ys (inl h) = inl h
in_left e (x ∷ xs) ys (inr h) = inr (in_left e xs ys h)

pub in_right : (e : Point) (xs ys : List Point) → In e ys → In e (xs ++ ys)
in_right e [] ys h = h
in_right e (x ∷ xs) ys h = inr (in_right e xs ys h)

pub all_in : (P : Point → Type 0) (xs : List Point) (e : Point) → All P xs → In e xs → P e
all_in P [] e all h = absurd h
all_in P (x ∷ xs) e all (inl h) = subst P h (All-head P x xs all)
all_in P (x ∷ xs) e all (inr h) = all_in P xs e (All-tail P x xs all) h

-- ---- the number of a node of a list

abbrev pub IsAt : GraphNode → Kinds → List Point → ℕ → Type 0
IsAt n k g i = (i < length g) × ((d : Point) → ((get_or g i d).node ≡ n) × ((get_or g i d).kinds ≡ k))

pub found_at : (ls : List Loop) (g : List Point) (n : GraphNode) (k : Kinds) → IsStrictTotalOrder ls → Fine ls g → IsNode ls n → found ls n g ≡ Some k → IsAt n k g (number_of ls n g)
found_at ls [] n k o h s e = let bad : None ≡ Some k = e in absurd (cc)
found_at ls (p ∷ ps) n k o h s e = by_same (found_at ls ps n k o h.2 s) (same ls p.node n) refl
  where
    by_same : (found ls n ps ≡ Some k → IsAt n k ps (number_of ls n ps)) → (b : Bool) → same ls p.node n ≡ b → IsAt n k (p ∷ ps) (number_of ls n (p ∷ ps))
    by_same later true t =
        let one : p.node ≡ n = same_is ls p.node n o h.0 s t in
        let kinds : Some p.kinds ≡ Some k = sym (found_here ls n p ps t) ∙ e in
        let what : p.kinds ≡ k = cc in
        let number : number_of ls n (p ∷ ps) ≡ zero = ap (λ b. if b then suc (number_of ls n ps) else zero) (ap (λ x. comes_before ls x n) one ∙ o.irreflexive n s) in
        subst (IsAt n k (p ∷ ps)) (sym number) (omega arith, λ d. (one, what))
    by_same later false t =
        let there = later (sym (found_skip ls n p ps t) ∙ e) in
        let before : comes_before ls p.node n ≡ true = subst (λ x. comes_before ls p.node x ≡ true) (there.1 p).0 (h.1 (number_of ls n ps) p there.0) in
        let number : number_of ls n (p ∷ ps) ≡ suc (number_of ls n ps) = ap (λ b. if b then suc (number_of ls n ps) else zero) before in
        subst (IsAt n k (p ∷ ps)) (sym number) (omega (arith, there.0), there.1)

-- a node of the list is found there
pub found_own : (ls : List Loop) (g : List Point) (k : ℕ) (d : Point) → IsStrictTotalOrder ls → Fine ls g → k < length g → found ls (get_or g k d).node g ≡ Some (get_or g k d).kinds
found_own ls [] k d o h below = absurd (omega arith)
found_own ls (p ∷ ps) zero d o h below = found_here ls p.node p ps (same_itself ls p.node o h.0)
found_own ls (p ∷ ps) (suc k) d o h below =
    found_skip ls (get_or ps k d).node p ps (same_not ls p.node (get_or ps k d).node (h.1 k d (omega arith))) ∙ found_own ls ps k d o h.2 (omega arith)

pub number_own : (ls : List Loop) (g : List Point) (k : ℕ) (d : Point) → IsStrictTotalOrder ls → Fine ls g → k < length g → number_of ls (get_or g k d).node g ≡ k
number_own ls [] k d o h below = absurd (omega arith)
number_own ls (p ∷ ps) zero d o h below = ap (λ b. if b then suc (number_of ls p.node ps) else zero) (o.irreflexive p.node h.0)
number_own ls (p ∷ ps) (suc k) d o h below =
    ap (λ b. if b then suc (number_of ls (get_or ps k d).node ps) else zero) (h.1 k d (omega arith)) ∙ ap suc (number_own ls ps k d o h.2 (omega arith))

-- neither comes before the other: they are one
pub number_here : (ls : List Loop) (g : List Point) (d : Point) (n : GraphNode) (k : ℕ) → AreOrdered ls g → IsNode ls n → k < length g → comes_before ls (get_or g k d).node n ≡ false → comes_before ls n (get_or g k d).node ≡ false
    → k ≡ number_of ls n g
number_here ls g d n k h s below after before =
    let o = nodes_are_ordered ls h.nested in
    let one : (get_or g k d).node ≡ n = o.total (get_or g k d).node n (h.nodes k d below) s after before in
    sym (number_own ls g k d o (fine_of ls g h.nodes h.ascending) below) ∙ ap (λ y. number_of ls y g) one

pub number_above : (ls : List Loop) (g : List Point) (n : GraphNode) (k : ℕ) (d : Point) → IsStrictTotalOrder ls → Fine ls g → IsNode ls n → k < length g → comes_before ls (get_or g k d).node n ≡ true → k < number_of ls n g
number_above ls [] n k d o h s below first = absurd (omega arith)
number_above ls (p ∷ ps) n zero d o h s below first =
    let number : number_of ls n (p ∷ ps) ≡ suc (number_of ls n ps) = ap (λ b. if b then suc (number_of ls n ps) else zero) first in omega (arith, number)
number_above ls (p ∷ ps) n (suc k) d o h s below first =
    let lt : k < length ps = omega arith in
    let later = number_above ls ps n k d o h.2 s lt first in
    let before : comes_before ls p.node n ≡ true = o.transitive p.node (get_or ps k d).node n h.0 (fine_nodes ls ps h.2 k d lt) s (h.1 k d lt) first in
    let number : number_of ls n (p ∷ ps) ≡ suc (number_of ls n ps) = ap (λ b. if b then suc (number_of ls n ps) else zero) before in
    omega (arith, number, later)

-- ---- what arrives at a node

-- what both sides of a join have, the join has
pub arriving_keeps : (ls : List Loop) (n : GraphNode) (D : Kinds → Type 0) → ((k j : Kinds) → D k → D j → D (joined k j)) → (es : List Point) (k : Option Kinds) → All (λ e. same ls e.node n ≡ true → D e.kinds) es → IfSome k D
    → IfSome (arriving ls n k es) D
arriving_keeps ls n D joins [] k all h = h
arriving_keeps ls n D joins (e ∷ es) k all h =
    arriving_keeps ls n D joins es (arrives ls n k e) (All-tail (λ x. same ls x.node n ≡ true → D x.kinds) e es all) (by_same (same ls e.node n) (All-head (λ x. same ls x.node n ≡ true → D x.kinds) e es all))
  where
    meets : (o : Option Kinds) → IfSome o D → D e.kinds → D (met o e.kinds)
    meets None f g = g
    meets (Some j) f g = joins j e.kinds f g

    by_same : (b : Bool) → (b ≡ true → D e.kinds) → IfSome (if b then Some (met k e.kinds) else k) D
    by_same true f = meets k h (f refl)
    by_same false f = h

-- what one side has that stays under joins, the whole has
arriving_from : (ls : List Loop) (n : GraphNode) (D : Kinds → Type 0) → ((k j : Kinds) → D k ⊎ D j → D (joined k j)) → (es : List Point) (j : Kinds) → D j → (k : Kinds) × (arriving ls n (Some j) es ≡ Some k) × D k
arriving_from ls n D joins [] j h = (j, refl, h)
arriving_from ls n D joins (e ∷ es) j h = by_same (arriving_from ls n D joins es (joined j e.kinds) (joins j e.kinds (inl h))) (arriving_from ls n D joins es j h) (same ls e.node n)
  where
    by_same : ((k : Kinds) × (arriving ls n (Some (joined j e.kinds)) es ≡ Some k) × D k) → ((k : Kinds) × (arriving ls n (Some j) es ≡ Some k) × D k)
        → (b : Bool) → (k : Kinds) × (arriving ls n (if b then Some (joined j e.kinds) else Some j) es ≡ Some k) × D k
    by_same more other true = more
    by_same more other false = other

pub arriving_has : (ls : List Loop) (n : GraphNode) (D : Kinds → Type 0) → ((k j : Kinds) → D k ⊎ D j → D (joined k j)) → (es : List Point) (e : Point) (o : Option Kinds) → In e es → same ls e.node n ≡ true → D e.kinds
    → (k : Kinds) × (arriving ls n o es ≡ Some k) × D k
arriving_has ls n D joins [] e o h s d = absurd h
arriving_has ls n D joins (x ∷ es) e o (inl h) s d =
    let here : arrives ls n o x ≡ Some (met o x.kinds) = ap (λ b. if b then Some (met o x.kinds) else o) (ap (λ y. same ls y.node n) h ∙ s) in
    let rest = arriving_from ls n D joins es (met o x.kinds) (meets o (subst (λ y. D y.kinds) (sym h) d)) in
    (rest.0, ap (λ y. arriving ls n y es) here ∙ rest.1, rest.2)
  where
    meets : (q : Option Kinds) → D x.kinds → D (met q x.kinds)
    meets None g = g
    meets (Some j) g = joins j x.kinds (inr g)
arriving_has ls n D joins (x ∷ es) e o (inr h) s d = arriving_has ls n D joins es e (arrives ls n o x) h s d

-- ---- edges of a node of the list

pub pass_at : (p : XdpProgram) (ls : List Loop) (j : ℕ) (g : List Point) (k : ℕ) (d : Point) → Pass p ls j g → k < length g → (es : List Point) × (leaving p ls (j + k) (get_or g k d) ≡ Ok es)
pass_at p ls j [] k d h below = absurd (omega arith)
pass_at p ls j (n ∷ g) zero d h below = let number : j + 0 ≡ j = omega arith in (h.0.0, ap (λ i. leaving p ls i n) number ∙ h.0.1)
pass_at p ls j (n ∷ g) (suc k) d h below =
    let there = pass_at p ls (j + 1) g k d h.1 (omega arith) in
    let number : j + suc k ≡ (j + 1) + k = omega arith in (there.0, ap (λ i. leaving p ls i (get_or g k d)) number ∙ there.1)

pub in_edges : (p : XdpProgram) (ls : List Loop) (j : ℕ) (g : List Point) (k : ℕ) (d e : Point) → k < length g → In e (ends (leaving p ls (j + k) (get_or g k d))) → In e (edges_from p ls j g)
in_edges p ls j [] k d e below h = absurd (omega arith)
in_edges p ls j (n ∷ g) zero d e below h =
    let number : j + 0 ≡ j = omega arith in in_left e (ends (leaving p ls j n)) (edges_from p ls (j + 1) g) (subst (λ i. In e (ends (leaving p ls i n))) number h)
in_edges p ls j (n ∷ g) (suc k) d e below h =
    let number : j + suc k ≡ (j + 1) + k = omega arith in
    in_right e (ends (leaving p ls j n)) (edges_from p ls (j + 1) g) (in_edges p ls (j + 1) g k d e (omega arith) (subst (λ i. In e (ends (leaving p ls i (get_or g k d)))) number h))

pub all_edges : (P : Point → Type 0) (p : XdpProgram) (ls : List Loop) (j : ℕ) (g : List Point) (d : Point) → ((k : ℕ) → k < length g → All P (ends (leaving p ls (j + k) (get_or g k d)))) → All P (edges_from p ls j g)
all_edges P p ls j [] d h = All-nil P
all_edges P p ls j (n ∷ g) d h =
    let number : j + 0 ≡ j = omega arith in
    All-append P (ends (leaving p ls j n)) (edges_from p ls (j + 1) g) (subst (λ i. All P (ends (leaving p ls i n))) number (h 0 (omega arith)))
    (all_edges P p ls (j + 1) g d (λ k below. let next : j + suc k ≡ (j + 1) + k = omega arith in subst (λ i. All P (ends (leaving p ls i (get_or g k d)))) next (h (suc k) (omega arith))))

abbrev pub numbered_at : XdpProgram → List Loop → List Point → ℕ → Point → List Edge
numbered_at p ls all k n = numbered ls all k (jumps_first n.kinds (insn_at p.insns n.node.place)) (ends (leaving p ls k n))

pub in_links : (p : XdpProgram) (ls : List Loop) (all : List Point) (j : ℕ) (g : List Point) (k : ℕ) (d : Point) (x : Edge) → k < length g → Contains (numbered_at p ls all (j + k) (get_or g k d)) x → Contains (links p ls all j g) x
in_links p ls all j [] k d x below h = absurd (omega arith)
in_links p ls all j (n ∷ g) zero d x below h =
    let number : j + 0 ≡ j = omega arith in Contains-append_left (numbered_at p ls all j n) (links p ls all (j + 1) g) x (subst (λ i. Contains (numbered_at p ls all i n) x) number h)
in_links p ls all j (n ∷ g) (suc k) d x below h =
    let number : j + suc k ≡ (j + 1) + k = omega arith in
    Contains-append_right (numbered_at p ls all j n) (links p ls all (j + 1) g) x (in_links p ls all (j + 1) g k d x (omega arith) (subst (λ i. Contains (numbered_at p ls all i (get_or g k d)) x) number h))
