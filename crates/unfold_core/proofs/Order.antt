-- The order of nodes is that of numbers: where a place stands to each loop, and then the place.
use Rattle.std.proofs.Common.{◌≡◌, ℕ, zero, suc, ◌+◌, ◌≤◌, ◌<◌, ◌⊎◌, inl, inr, ◌&&◌, not, eqb, leb, ltb, Bool, true, false, List, [], ◌∷◌, refl, sym, ◌∙◌, ap, subst, arith}
use Rattle.std.specs.Prelude.{All, if◌then◌else◌}
use Rattle.std.specs.List.{AllPairs, Contains, list_all}
use Rattle.std.proofs.lemmas.List.Elements.{All-head, All-tail, All-weaker}
use Rattle.std.proofs.lemmas.Bool.{true≢false, cases_lt, cases_order, and_parts, and_from, and_left, and_right, ltb-true, ltb-false, lt-ltb, le-ltb, le-leb, lt-leb, eq-eqb, ne_eqb}
use Rattle.unfold_core.specs.declared.nesting.Loop.{Loop}
use Rattle.unfold_core.specs.Loops.{holds, Nests}
use Rattle.unfold_core.specs.Nodes.{GraphNode, first, rest, IsCopy, AreCopies, IsNode, copies_before, comes_before, next_copy, next_copies, fits}

-- ---- where a place stands to a loop: before it, in a copy of it, or after it

abbrev pub side : Loop → ℕ → ℕ → ℕ
side l p c = if ltb p l.head then 0 else (if leb p l.last then c + 1 else 66)

data Stands (l : Loop) (p : ℕ) : Type 0 where
  Before : p < l.head → Stands l p
  Inside : l.head ≤ p → p ≤ l.last → Stands l p
  Behind : l.head ≤ p → l.last < p → Stands l p

stands : (l : Loop) (p : ℕ) → Stands l p
stands l p = elim (cases_lt p l.head) [
  | inl a ↦ Before a
  | inr a ↦ elim (cases_lt l.last p) [ inl b ↦ Behind a b | inr b ↦ Inside a b ]
]

side_before : (l : Loop) (p c : ℕ) → p < l.head → side l p c ≡ 0
side_before l p c h = ap (λ b. if b then 0 else (if leb p l.last then c + 1 else 66)) (lt-ltb p l.head h)

side_inside : (l : Loop) (p c : ℕ) → l.head ≤ p → p ≤ l.last → side l p c ≡ c + 1
side_inside l p c h k = ap (λ b. if b then 0 else (if leb p l.last then c + 1 else 66)) (le-ltb p l.head h) ∙ ap (λ b. if b then c + 1 else 66) (le-leb p l.last k)

side_behind : (l : Loop) (p c : ℕ) → l.head ≤ p → l.last < p → side l p c ≡ 66
side_behind l p c h k = ap (λ b. if b then 0 else (if leb p l.last then c + 1 else 66)) (le-ltb p l.head h) ∙ ap (λ b. if b then c + 1 else 66) (lt-leb p l.last k)

holds_inside : (l : Loop) (p : ℕ) → l.head ≤ p → p ≤ l.last → holds l p ≡ true
holds_inside l p h k = and_from (leb l.head p) (leb p l.last) (le-leb l.head p h) (le-leb p l.last k)

holds_before : (l : Loop) (p : ℕ) → p < l.head → holds l p ≡ false
holds_before l p h = and_left (leb l.head p) (leb p l.last) (lt-leb l.head p h)

holds_behind : (l : Loop) (p : ℕ) → l.last < p → holds l p ≡ false
holds_behind l p h = and_right (leb l.head p) (leb p l.last) (lt-leb p l.last h)

-- ---- the order of numbers, one after the other

abbrev lex : ℕ → ℕ → Bool → Bool
lex a b later = if eqb a b then later else ltb a b

lex_same : (a b : ℕ) (y : Bool) → a ≡ b → lex a b y ≡ y
lex_same a b y e = ap (λ t. if t then y else ltb a b) (eq-eqb a b e)

lex_lt : (a b : ℕ) (y : Bool) → a < b → lex a b y ≡ true
lex_lt a b y h = ap (λ t. if t then y else ltb a b) (ne_eqb a b (λ e. absurd (omega arith))) ∙ lt-ltb a b h

lex_gt : (a b : ℕ) (y : Bool) → b < a → lex a b y ≡ false
lex_gt a b y h = ap (λ t. if t then y else ltb a b) (ne_eqb a b (λ e. absurd (omega arith))) ∙ le-ltb a b (omega arith)

lex_cases : (a b : ℕ) (y r : Bool) → lex a b y ≡ r → ((a < b) × (r ≡ true)) ⊎ (((b < a) × (r ≡ false)) ⊎ ((a ≡ b) × (y ≡ r)))
lex_cases a b y r h = elim (cases_order a b) [
  | inl e ↦ inr (inr (e, sym (lex_same a b y e) ∙ h))
  | inr (inl lt) ↦ inl (lt, sym h ∙ lex_lt a b y lt)
  | inr (inr gt) ↦ inr (inl (gt, sym h ∙ lex_gt a b y gt))
]

lex_raised : (x y : ℕ) (z : Bool) → lex x y z ≡ lex (x + 1) (y + 1) z
lex_raised x y z = elim (cases_order x y) [
  | inl e ↦ lex_same x y z e ∙ sym (lex_same (x + 1) (y + 1) z (ap (λ k. k + 1) e))
  | inr (inl lt) ↦ lex_lt x y z lt ∙ sym (lex_lt (x + 1) (y + 1) z (omega arith))
  | inr (inr gt) ↦ lex_gt x y z gt ∙ sym (lex_gt (x + 1) (y + 1) z (omega arith))
]

turned : (b x y : Bool) → (if not b then x else y) ≡ (if b then y else x)
turned true x y = refl
turned false x y = refl

lex_last : (x y : ℕ) → lex x y false ≡ ltb x y
lex_last x y = elim (cases_order x y) [
  | inl e ↦ lex_same x y false e ∙ sym (le-ltb x y (omega (arith, e)))
  | inr (inl lt) ↦ lex_lt x y false lt ∙ sym (lt-ltb x y lt)
  | inr (inr gt) ↦ lex_gt x y false gt ∙ sym (le-ltb x y (omega (arith, gt)))
]

abbrev pub key_before : List ℕ → List ℕ → Bool
key_before [] ys = false
key_before (x ∷ xs) [] = false
key_before (x ∷ xs) (y ∷ ys) = lex x y (key_before xs ys)

pub key_irreflexive : (xs : List ℕ) → key_before xs xs ≡ false
key_irreflexive [] = refl
key_irreflexive (x ∷ xs) = lex_same x x (key_before xs xs) refl ∙ key_irreflexive xs

pub key_transitive : (xs ys zs : List ℕ) → key_before xs ys ≡ true → key_before ys zs ≡ true → key_before xs zs ≡ true
key_transitive [] ys zs h k = absurd (true≢false (sym h))
key_transitive (x ∷ xs) [] zs h k = absurd (true≢false (sym h))
key_transitive (x ∷ xs) (y ∷ ys) [] h k = absurd (true≢false (sym k))
key_transitive (x ∷ xs) (y ∷ ys) (z ∷ zs) h k = joined (key_transitive xs ys zs) (lex_cases x y (key_before xs ys) true h) (lex_cases y z (key_before ys zs) true k)
  where
    joined : (key_before xs ys ≡ true → key_before ys zs ≡ true → key_before xs zs ≡ true)
        → ((x < y) × (true ≡ true)) ⊎ (((y < x) × (true ≡ false)) ⊎ ((x ≡ y) × (key_before xs ys ≡ true)))
        → ((y < z) × (true ≡ true)) ⊎ (((z < y) × (true ≡ false)) ⊎ ((y ≡ z) × (key_before ys zs ≡ true)))
        → lex x z (key_before xs zs) ≡ true
    joined later (inl a) (inl b) = lex_lt x z (key_before xs zs) (omega (arith, a.0, b.0))
    joined later (inl a) (inr (inr b)) = lex_lt x z (key_before xs zs) (omega (arith, a.0, b.0))
    joined later (inr (inr a)) (inl b) = lex_lt x z (key_before xs zs) (omega (arith, a.0, b.0))
    joined later (inr (inr a)) (inr (inr b)) = lex_same x z (key_before xs zs) (a.0 ∙ b.0) ∙ later a.1 b.1
    joined later (inr (inl a)) b = absurd (true≢false a.1)
    joined later (inl a) (inr (inl b)) = absurd (true≢false b.1)
    joined later (inr (inr a)) (inr (inl b)) = absurd (true≢false b.1)

-- the key of a node: where its place stands to each loop, and then the place
abbrev pub key : List Loop → ℕ → List ℕ → List ℕ
key [] p cs = p ∷ []
key (l ∷ ls) p cs = side l p (first cs) ∷ key ls p (rest cs)

-- ---- loops inside one another

abbrev pub Small : List ℕ → Type 0
Small [] = Unit {0}
Small (c ∷ cs) = (c < 65) × Small cs

small_first : (cs : List ℕ) → Small cs → first cs < 65
small_first [] h = omega arith
small_first (c ∷ cs) h = h.0

small_rest : (cs : List ℕ) → Small cs → Small (rest cs)
small_rest [] h = tt
small_rest (c ∷ cs) h = h.1

pub nested_first : (l : Loop) (ls : List Loop) → AllPairs Nests (l ∷ ls) → All (Nests l) ls
nested_first l ls h = λ k d below. h 0 (suc k) d (omega arith) (omega arith)

pub nested_rest : (l : Loop) (ls : List Loop) → AllPairs Nests (l ∷ ls) → AllPairs Nests ls
nested_rest l ls h = λ i j d up below. h (suc i) (suc j) d (omega arith) (omega arith)

abbrev Shared : ℕ → ℕ → Loop → Type 0
Shared p q l = (holds l p && holds l q) ≡ false

-- no loop holds both
unshared : (ls : List Loop) (p q : ℕ) (cs ds : List ℕ) → All (Shared p q) ls → copies_before ls p cs q ds ≡ ltb p q
unshared [] p q cs ds h = refl
unshared (l ∷ ls) p q cs ds h =
    ap (λ b. if b && not (eqb (first cs) (first ds)) then ltb (first cs) (first ds) else copies_before ls p (rest cs) q (rest ds)) (All-head (Shared p q) l ls h)
    ∙ unshared ls p q (rest cs) (rest ds) (All-tail (Shared p q) l ls h)

-- a loop tells two places apart by their copies, or by where they stand to it
by_loop : (l : Loop) (ls : List Loop) (p q : ℕ) (cs ds : List ℕ) → AllPairs Nests (l ∷ ls) → Small cs → Small ds → copies_before ls p (rest cs) q (rest ds) ≡ key_before (key ls p (rest cs)) (key ls q (rest ds))
    → Stands l p → Stands l q → copies_before (l ∷ ls) p cs q ds ≡ key_before (key (l ∷ ls) p cs) (key (l ∷ ls) q ds)
by_loop l ls p q cs ds n s t later = by_sides
  where
    -- l holds not both: it does not tell
    skipped : Shared p q l → copies_before (l ∷ ls) p cs q ds ≡ copies_before ls p (rest cs) q (rest ds)
    skipped h = ap (λ b. if b && not (eqb (first cs) (first ds)) then ltb (first cs) (first ds) else copies_before ls p (rest cs) q (rest ds)) h

    both_outside : Shared p q l → side l p (first cs) ≡ side l q (first ds) → copies_before (l ∷ ls) p cs q ds ≡ key_before (key (l ∷ ls) p cs) (key (l ∷ ls) q ds)
    both_outside h e = skipped h ∙ later ∙ sym (lex_same (side l p (first cs)) (side l q (first ds)) (key_before (key ls p (rest cs)) (key ls q (rest ds))) e)

    -- the loops after or inside l hold no place before it
    none_before : (x : ℕ) → x < l.head → All (λ m. holds m x ≡ false) ls
    none_before x h = All-weaker (Nests l) (λ m. holds m x ≡ false) (λ m k. holds_before m x (omega (arith, k.0))) ls (nested_first l ls n)

    apart_left : Shared p q l → All (λ m. holds m p ≡ false) ls → copies_before (l ∷ ls) p cs q ds ≡ ltb p q
    apart_left h k = skipped h ∙ unshared ls p q (rest cs) (rest ds) (All-weaker (λ m. holds m p ≡ false) (Shared p q) (λ m e. and_left (holds m p) (holds m q) e) ls k)

    apart_right : Shared p q l → All (λ m. holds m q ≡ false) ls → copies_before (l ∷ ls) p cs q ds ≡ ltb p q
    apart_right h k = skipped h ∙ unshared ls p q (rest cs) (rest ds) (All-weaker (λ m. holds m q ≡ false) (Shared p q) (λ m e. and_right (holds m p) (holds m q) e) ls k)

    -- none of them holds a place of l and one after it
    none_across : (x y : ℕ) → x ≤ l.last → l.last < y → All (λ m. (holds m x ≡ false) ⊎ (holds m y ≡ false)) ls
    none_across x y h k = All-weaker (Nests l) (λ m. (holds m x ≡ false) ⊎ (holds m y ≡ false))
        (λ m e. elim e.1 [ inl a ↦ inl (holds_before m x (omega arith)) | inr a ↦ inr (holds_behind m y (omega arith)) ]) ls (nested_first l ls n)

    across : Shared p q l → All (λ m. (holds m p ≡ false) ⊎ (holds m q ≡ false)) ls → copies_before (l ∷ ls) p cs q ds ≡ ltb p q
    across h k = skipped h ∙ unshared ls p q (rest cs) (rest ds) (All-weaker (λ m. (holds m p ≡ false) ⊎ (holds m q ≡ false)) (Shared p q)
        (λ m e. elim e [ inl a ↦ and_left (holds m p) (holds m q) a | inr a ↦ and_right (holds m p) (holds m q) a ]) ls k)

    up : copies_before (l ∷ ls) p cs q ds ≡ ltb p q → p < q → side l p (first cs) < side l q (first ds) → copies_before (l ∷ ls) p cs q ds ≡ key_before (key (l ∷ ls) p cs) (key (l ∷ ls) q ds)
    up e h k = e ∙ lt-ltb p q h ∙ sym (lex_lt (side l p (first cs)) (side l q (first ds)) (key_before (key ls p (rest cs)) (key ls q (rest ds))) k)

    down : copies_before (l ∷ ls) p cs q ds ≡ ltb p q → q ≤ p → side l q (first ds) < side l p (first cs) → copies_before (l ∷ ls) p cs q ds ≡ key_before (key (l ∷ ls) p cs) (key (l ∷ ls) q ds)
    down e h k = e ∙ le-ltb p q h ∙ sym (lex_gt (side l p (first cs)) (side l q (first ds)) (key_before (key ls p (rest cs)) (key ls q (rest ds))) k)

    -- l holds both: their copies tell, where they differ
    within : holds l p ≡ true → holds l q ≡ true → copies_before (l ∷ ls) p cs q ds ≡ lex (first cs) (first ds) (copies_before ls p (rest cs) q (rest ds))
    within h k =
        ap (λ b. if b && not (eqb (first cs) (first ds)) then ltb (first cs) (first ds) else copies_before ls p (rest cs) q (rest ds)) (and_from (holds l p) (holds l q) h k)
        ∙ turned (eqb (first cs) (first ds)) (ltb (first cs) (first ds)) (copies_before ls p (rest cs) q (rest ds))

    by_sides : Stands l p → Stands l q → copies_before (l ∷ ls) p cs q ds ≡ key_before (key (l ∷ ls) p cs) (key (l ∷ ls) q ds)
    by_sides (Before a) (Before b) = both_outside (and_left (holds l p) (holds l q) (holds_before l p a)) (side_before l p (first cs) a ∙ sym (side_before l q (first ds) b))
    by_sides (Before a) (Inside b d) =
        up (apart_left (and_left (holds l p) (holds l q) (holds_before l p a)) (none_before p a)) (omega arith) (omega (arith, side_before l p (first cs) a, side_inside l q (first ds) b d))
    by_sides (Before a) (Behind b d) =
        up (apart_left (and_left (holds l p) (holds l q) (holds_before l p a)) (none_before p a)) (omega arith) (omega (arith, side_before l p (first cs) a, side_behind l q (first ds) b d))
    by_sides (Inside a c) (Before b) =
        down (apart_right (and_right (holds l p) (holds l q) (holds_before l q b)) (none_before q b)) (omega arith) (omega (arith, side_inside l p (first cs) a c, side_before l q (first ds) b))
    by_sides (Inside a c) (Inside b d) =
        within (holds_inside l p a c) (holds_inside l q b d)
        ∙ ap (lex (first cs) (first ds)) later
        ∙ lex_raised (first cs) (first ds) (key_before (key ls p (rest cs)) (key ls q (rest ds)))
        ∙ ap (λ x. lex x (first ds + 1) (key_before (key ls p (rest cs)) (key ls q (rest ds)))) (sym (side_inside l p (first cs) a c))
        ∙ ap (λ x. lex (side l p (first cs)) x (key_before (key ls p (rest cs)) (key ls q (rest ds)))) (sym (side_inside l q (first ds) b d))
    by_sides (Inside a c) (Behind b d) =
        up (across (and_right (holds l p) (holds l q) (holds_behind l q d)) (none_across p q c d)) (omega arith)
        (omega (arith, side_inside l p (first cs) a c, side_behind l q (first ds) b d, small_first cs s))
    by_sides (Behind a c) (Before b) =
        down (apart_right (and_right (holds l p) (holds l q) (holds_before l q b)) (none_before q b)) (omega arith) (omega (arith, side_behind l p (first cs) a c, side_before l q (first ds) b))
    by_sides (Behind a c) (Inside b d) =
        down (across (and_left (holds l p) (holds l q) (holds_behind l p c)) (All-weaker (λ m. (holds m q ≡ false) ⊎ (holds m p ≡ false)) (λ m. (holds m p ≡ false) ⊎ (holds m q ≡ false))
        (λ m e. elim e [ inl x ↦ inr x | inr x ↦ inl x ]) ls (none_across q p d c))) (omega arith)
        (omega (arith, side_behind l p (first cs) a c, side_inside l q (first ds) b d, small_first ds t))
    by_sides (Behind a c) (Behind b d) = both_outside (and_left (holds l p) (holds l q) (holds_behind l p c)) (side_behind l p (first cs) a c ∙ sym (side_behind l q (first ds) b d))

by_key : (ls : List Loop) (p q : ℕ) (cs ds : List ℕ) → AllPairs Nests ls → Small cs → Small ds → copies_before ls p cs q ds ≡ key_before (key ls p cs) (key ls q ds)
by_key [] p q cs ds n s t = sym (lex_last p q)
by_key (l ∷ ls) p q cs ds n s t =
    by_loop l ls p q cs ds n s t (by_key ls p q (rest cs) (rest ds) (nested_rest l ls n) (small_rest cs s) (small_rest ds t)) (stands l p) (stands l q)

-- ---- the laws of the order

small_copies : (ls : List Loop) (p : ℕ) (cs : List ℕ) → AreCopies ls p cs → Small cs
small_copies [] p [] h = tt
small_copies [] p (c ∷ cs) h = absurd h
small_copies (l ∷ ls) p [] h = absurd h
small_copies (l ∷ ls) p (c ∷ cs) h = (omega (arith, h.0.0), small_copies ls p cs h.1)

pub before_by_key : (ls : List Loop) (a b : GraphNode) → AllPairs Nests ls → IsNode ls a → IsNode ls b → comes_before ls a b ≡ key_before (key ls a.place a.copies) (key ls b.place b.copies)
before_by_key ls a b n s t = by_key ls a.place b.place a.copies b.copies n (small_copies ls a.place a.copies s) (small_copies ls b.place b.copies t)

-- copies of one loop at one place that stand at one side are the same
same_copy : (l : Loop) (p c d : ℕ) → IsCopy l p c → IsCopy l p d → side l p c ≡ side l p d → c ≡ d
same_copy l p c d h k e = by_side (stands l p)
  where
    by_side : Stands l p → c ≡ d
    by_side (Before a) = h.1 (holds_before l p a) ∙ sym (k.1 (holds_before l p a))
    by_side (Inside a b) = omega (arith, sym (side_inside l p c a b) ∙ e ∙ side_inside l p d a b)
    by_side (Behind a b) = h.1 (holds_behind l p b) ∙ sym (k.1 (holds_behind l p b))

pub key_total : (ls : List Loop) (p q : ℕ) (cs ds : List ℕ) → AreCopies ls p cs → AreCopies ls q ds → key_before (key ls p cs) (key ls q ds) ≡ false → key_before (key ls q ds) (key ls p cs) ≡ false → (p ≡ q) × (cs ≡ ds)
key_total [] p q [] [] s t h k = (omega (arith, ltb-false p q (sym (lex_last p q) ∙ h), ltb-false q p (sym (lex_last q p) ∙ k)), refl)
key_total [] p q [] (d ∷ ds) s t h k = absurd t
key_total [] p q (c ∷ cs) ds s t h k = absurd s
key_total (l ∷ ls) p q [] ds s t h k = absurd s
key_total (l ∷ ls) p q (c ∷ cs) [] s t h k = absurd t
key_total (l ∷ ls) p q (c ∷ cs) (d ∷ ds) s t h k =
    joined
    (λ x y. key_total ls p q cs ds s.1 t.1 x y)
    (lex_cases (side l p c) (side l q d) (key_before (key ls p cs) (key ls q ds)) false h)
    (lex_cases (side l q d) (side l p c) (key_before (key ls q ds) (key ls p cs)) false k)
  where
    joined : (key_before (key ls p cs) (key ls q ds) ≡ false → key_before (key ls q ds) (key ls p cs) ≡ false → (p ≡ q) × (cs ≡ ds))
        → ((side l p c < side l q d) × (false ≡ true)) ⊎ (((side l q d < side l p c) × (false ≡ false)) ⊎ ((side l p c ≡ side l q d) × (key_before (key ls p cs) (key ls q ds) ≡ false)))
        → ((side l q d < side l p c) × (false ≡ true)) ⊎ (((side l p c < side l q d) × (false ≡ false)) ⊎ ((side l q d ≡ side l p c) × (key_before (key ls q ds) (key ls p cs) ≡ false)))
        → (p ≡ q) × ((c ∷ cs) ≡ (d ∷ ds))
    joined later (inr (inr a)) (inr (inr b)) =
        let same = later a.1 b.1 in
        let there : IsCopy l p d = subst (λ x. IsCopy l x d) (sym same.0) t.0 in
        let one : c ≡ d = same_copy l p c d s.0 there (a.0 ∙ ap (λ x. side l x d) (sym same.0)) in
        (same.0, ap (λ x. x ∷ cs) one ∙ ap (λ xs. d ∷ xs) same.1)
    joined later (inl a) b = absurd (true≢false (sym a.1))
    joined later (inr a) (inl b) = absurd (true≢false (sym b.1))
    joined later (inr (inl a)) (inr (inl b)) = absurd (omega (arith, a.0, b.0))
    joined later (inr (inl a)) (inr (inr b)) = absurd (omega (arith, a.0, b.0))
    joined later (inr (inr a)) (inr (inl b)) = absurd (omega (arith, a.0, b.0))

-- ---- edges

all_fit : (c : ℕ) (cs : List ℕ) → list_all fits (c ∷ cs) ≡ true → (c < 64) × (list_all fits cs ≡ true)
all_fit c cs h = let parts = and_parts (ltb c 64) (list_all fits cs) h in (ltb-true c 64 parts.0, parts.1)

pub next_are_copies : (ls : List Loop) (p q : ℕ) (cs : List ℕ) → list_all fits (next_copies ls p q cs) ≡ true → AreCopies ls q (next_copies ls p q cs)
next_are_copies [] p q cs h = tt
next_are_copies (l ∷ ls) p q cs h =
    let parts = all_fit (next_copy l p q (first cs)) (next_copies ls p q (rest cs)) h in
    ((parts.0, λ out. ap (λ b. if b then (if holds l p then (if eqb q l.head then first cs + 1 else first cs) else 0) else 0) out), next_are_copies ls p q (rest cs) parts.1)

-- forward no side goes down
side_up : (l : Loop) (p q c : ℕ) → p < q → c < 64 → (side l p c < side l q (next_copy l p q c)) ⊎ (side l p c ≡ side l q (next_copy l p q c))
side_up l p q c h small = grind arith

first_small : (ls : List Loop) (l : Loop) (p : ℕ) (cs : List ℕ) → AreCopies (l ∷ ls) p cs → (first cs < 64) × AreCopies ls p (rest cs)
first_small ls l p [] h = absurd h
first_small ls l p (c ∷ cs) h = (h.0.0, h.1)

pub forward_up : (ls : List Loop) (p q : ℕ) (cs : List ℕ) → p < q → AreCopies ls p cs → key_before (key ls p cs) (key ls q (next_copies ls p q cs)) ≡ true
forward_up [] p q cs h s = lex_lt p q false h
forward_up (l ∷ ls) p q cs h s =
    let x = first_small ls l p cs s in
    elim (side_up l p q (first cs) h x.0) [
      | inl a ↦ lex_lt (side l p (first cs)) (side l q (next_copy l p q (first cs))) (key_before (key ls p (rest cs)) (key ls q (next_copies ls p q (rest cs)))) a
      | inr e ↦ lex_same (side l p (first cs)) (side l q (next_copy l p q (first cs))) (key_before (key ls p (rest cs)) (key ls q (next_copies ls p q (rest cs)))) e ∙ forward_up ls p q (rest cs) h x.1
    ]

-- back to a head from inside its loop, an outer loop keeps its copy
outer_same : (l : Loop) (p q c last : ℕ) → q ≤ p → p ≤ last → l.head < q → ((l.last < q) ⊎ (last ≤ l.last)) → side l p c ≡ side l q (next_copy l p q c)
outer_same l p q c last a b h n = grind arith

-- and the loop's own goes up
own_up : (l : Loop) (p q c : ℕ) → q ≤ p → p ≤ l.last → l.head ≡ q → side l p c < side l q (next_copy l p q c)
own_up l p q c a b h = grind arith

-- some loop has this head and holds this place
abbrev pub HasLoop : List Loop → ℕ → ℕ → Type 0
HasLoop [] q p = ⊥
HasLoop (l ∷ ls) q p = ((l.head ≡ q) × (p ≤ l.last)) ⊎ HasLoop ls q p

pub has_loop : (ls : List Loop) (l : Loop) (p : ℕ) → Contains ls l → p ≤ l.last → HasLoop ls l.head p
has_loop [] l p c h = absurd (omega (arith, c.1))
has_loop (m ∷ ls) l p (zero, below, e) h = inl (ap (λ x. x.head) e, subst (λ x. p ≤ x.last) (sym e) h)
has_loop (m ∷ ls) l p (suc k, below, e) h = inr (has_loop ls l p (k, omega (arith, below), e) h)

-- what an outer loop has to do with a loop of the rest
nests_has : (l : Loop) (ls : List Loop) (q p : ℕ) → All (Nests l) ls → HasLoop ls q p → (last : ℕ) × (p ≤ last) × (l.head < q) × ((l.last < q) ⊎ (last ≤ l.last))
nests_has l [] q p n h = absurd h
nests_has l (m ∷ ms) q p n (inl h) =
    let x = All-head (Nests l) m ms n in
    (m.last, h.1, subst (λ x. l.head < x) h.0 x.0, subst (λ x. (l.last < x) ⊎ (m.last ≤ l.last)) h.0 x.1)
nests_has l (m ∷ ms) q p n (inr h) = nests_has l ms q p (All-tail (Nests l) m ms n) h

pub back_up : (ls : List Loop) (p q : ℕ) (cs : List ℕ) → AllPairs Nests ls → q ≤ p → HasLoop ls q p → key_before (key ls p cs) (key ls q (next_copies ls p q cs)) ≡ true
back_up [] p q cs n h has = absurd has
back_up (l ∷ ls) p q cs n h (inl has) =
    lex_lt (side l p (first cs)) (side l q (next_copy l p q (first cs))) (key_before (key ls p (rest cs)) (key ls q (next_copies ls p q (rest cs)))) (own_up l p q (first cs) h has.1 has.0)
back_up (l ∷ ls) p q cs n h (inr has) =
    let o = nests_has l ls q p (nested_first l ls n) has in
    lex_same (side l p (first cs)) (side l q (next_copy l p q (first cs))) (key_before (key ls p (rest cs)) (key ls q (next_copies ls p q (rest cs)))) (outer_same l p q (first cs) o.0 h o.1 o.2 o.3)
    ∙ back_up ls p q (rest cs) (nested_rest l ls n) h has
