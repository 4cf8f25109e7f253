-- More edges among those that lead to nodes.
use Rattle.std.proofs.Common.{◌≡◌, ◌≢◌, ℕ, ◌+◌, ◌-◌, ◌<◌, ◌≤◌, ◌⊎◌, inl, inr, List, [], ◌∷◌, ◌++◌, length, length-append, get_or, set, take, replicate, map, sym, ◌∙◌, ap, subst, arith, refl}
use Rattle.std.specs.Prelude.{slice_index, All, Contains}
use Rattle.std.proofs.Math.ListN.{get_or-append, length-set}
use Rattle.std.proofs.Math.Seq.{get_or-append_seam}
use Rattle.std.proofs.lemmas.Bool.{cases_lt}
use Rattle.std.proofs.lemmas.List.{get_or-set_same, get_or-set_other, get_or-map, append_assoc, replicate-append-replicate, append-nil, map-set, map-append, take_more, length-map, length-take-le}
use Rattle.std.proofs.lemmas.List.Elements.{All-append, All-cons, All-nil, All-weaker, Contains-append_left, Contains-append_right}
use Rattle.operator_cells.specs.declared.held_cells.way.Way.{Way}
use Rattle.predicate_core.specs.Progress.{targets, AreNumbers, Entered}
use Rattle.predicate_core.proofs.Numbered.{target_at, count_targets}

old_target : (tos : List ℕ) (t i : ℕ) → i < length tos → slice_index (tos ++ t ∷ []) i ≡ slice_index tos i
old_target tos t i l = get_or-append tos (t ∷ []) 0 i l

new_target : (tos : List ℕ) (t : ℕ) → slice_index (tos ++ t ∷ []) (length tos) ≡ t
new_target tos t = get_or-append_seam tos t [] 0

longer : (tos : List ℕ) (t : ℕ) → length (tos ++ t ∷ []) ≡ length tos + 1
longer tos t = omega (arith, length-append tos (t ∷ []))

each_more : (k t : ℕ) (tos numbers : List ℕ) → AreNumbers k tos numbers → All (λ i. (i < length (tos ++ t ∷ [])) × (slice_index (tos ++ t ∷ []) i ≡ k)) numbers
each_more k t tos numbers are = All-weaker (λ i. (i < length tos) × (slice_index tos i ≡ k)) (λ i. (i < length (tos ++ t ∷ [])) × (slice_index (tos ++ t ∷ []) i ≡ k))
    (λ i x. (omega (arith, x.0, longer tos t), old_target tos t i x.0 ∙ x.1)) numbers are.each

numbers_own : (k : ℕ) (tos numbers : List ℕ) → AreNumbers k tos numbers → AreNumbers k (tos ++ k ∷ []) (numbers ++ length tos ∷ [])
numbers_own k tos numbers are = record {
  each = All-append (λ i. (i < length (tos ++ k ∷ [])) × (slice_index (tos ++ k ∷ []) i ≡ k)) numbers (length tos ∷ []) (each_more k k tos numbers are)
      (All-cons (λ i. (i < length (tos ++ k ∷ [])) × (slice_index (tos ++ k ∷ []) i ≡ k)) (length tos) [] (omega (arith, longer tos k), new_target tos k) (All-nil _));
  all = λ i l is. by i l is (cases_lt i (length tos));
}
  where
    by : (i : ℕ) → i < length (tos ++ k ∷ []) → slice_index (tos ++ k ∷ []) i ≡ k → (i < length tos) ⊎ (length tos ≤ i) → Contains (numbers ++ length tos ∷ []) i
    by i l is (inl b) = Contains-append_left numbers (length tos ∷ []) i (are.all i b (sym (old_target tos k i b) ∙ is))
    by i l is (inr b) = Contains-append_right numbers (length tos ∷ []) i (0, omega arith, omega (arith, l, b, longer tos k))

numbers_other : (k t : ℕ) (tos numbers : List ℕ) → k ≢ t → AreNumbers k tos numbers → AreNumbers k (tos ++ t ∷ []) numbers
numbers_other k t tos numbers other are = record { each = each_more k t tos numbers are; all = λ i l is. by i l is (cases_lt i (length tos)) }
  where
    by : (i : ℕ) → i < length (tos ++ t ∷ []) → slice_index (tos ++ t ∷ []) i ≡ k → (i < length tos) ⊎ (length tos ≤ i) → Contains numbers i
    by i l is (inl b) = are.all i b (sym (old_target tos t i b) ∙ is)
    by i l is (inr b) = let e : i ≡ length tos = omega (arith, l, b, longer tos t) in absurd (other (sym is ∙ ap (slice_index (tos ++ t ∷ [])) e ∙ new_target tos t))

same_or : (k t : ℕ) → (k ≡ t) ⊎ (k ≢ t)
same_or k t = by (cases_lt k t) (cases_lt t k)
  where
    by : (k < t) ⊎ (t ≤ k) → (t < k) ⊎ (k ≤ t) → (k ≡ t) ⊎ (k ≢ t)
    by (inl a) b = inr (λ e. omega (arith, a, e))
    by (inr a) (inl b) = inr (λ e. omega (arith, b, e))
    by (inr a) (inr b) = inl (omega (arith, a, b))

pub entered_none : (tos : List ℕ) (entries pending : List (List ℕ)) (row : List ℕ) → Entered tos tos entries entries pending pending row
entered_none tos entries pending row = record {
  size = refl;
  entered = λ k l are. are;
  beside = sym (ap (λ (n : ℕ). pending ++ replicate n row) (let e : length tos - length tos ≡ 0 = omega arith in e) ∙ append-nil pending);
}

pub entered_more : (first tos : List ℕ) (t : ℕ) (e0 e1 : List (List ℕ)) (p0 p1 : List (List ℕ)) (row : List ℕ) → length first ≤ length tos → t < length e1 → Entered first tos e0 e1 p0 p1 row
    → Entered first (tos ++ t ∷ []) e0 (set e1 t (get_or e1 t [] ++ length tos ∷ [])) p0 (p1 ++ row ∷ []) row
entered_more first tos t e0 e1 p0 p1 row low inside was = record {
  size = length-set e1 t (get_or e1 t [] ++ length tos ∷ []) ∙ was.size;
  entered = λ k l are. by k (was.entered k l are) (same_or k t);
  beside = ap (λ (xs : List (List ℕ)). xs ++ row ∷ []) was.beside ∙ append_assoc p0 (replicate (length tos - length first) row) (row ∷ [])
      ∙ ap (λ (xs : List (List ℕ)). p0 ++ xs) (replicate-append-replicate (length tos - length first) 1 row ∙ ap (λ (n : ℕ). replicate n row) (omega (arith, low, longer tos t)));
}
  where
    by : (k : ℕ) → AreNumbers k tos (get_or e1 k []) → (k ≡ t) ⊎ (k ≢ t) → AreNumbers k (tos ++ t ∷ []) (get_or (set e1 t (get_or e1 t [] ++ length tos ∷ [])) k [])
    by k are (inl e) = subst (λ (j : ℕ). AreNumbers j (tos ++ t ∷ []) (get_or (set e1 t (get_or e1 t [] ++ length tos ∷ [])) j [])) (sym e)
        (subst (AreNumbers t (tos ++ t ∷ [])) (sym (get_or-set_same e1 t (get_or e1 t [] ++ length tos ∷ []) [] inside)) (numbers_own t tos (get_or e1 t []) (subst (λ (j : ℕ). AreNumbers j tos (get_or e1 j [])) e are)))
    by k are (inr e) = subst (AreNumbers k (tos ++ t ∷ [])) (sym (get_or-set_other e1 t k (get_or e1 t [] ++ length tos ∷ []) [] e)) (numbers_other k t tos (get_or e1 k []) e are)

-- one edge more, in memory
pub entered_step : {X Y : Type 0} (f : X → List ℕ) (h : Y → List ℕ) (ways : List Way) (i : ℕ) (d : Way) (first : List ℕ) (e0 : List (List ℕ)) (es : List X) (x y : X) (p0 : List (List ℕ)) (ps qs : List Y) (b : Y) (row : List ℕ)
    → i < length ways → length first ≤ i → (get_or ways i d).to < length es → x ≡ get_or es (get_or ways i d).to x → f y ≡ f x ++ i ∷ [] → qs ≡ ps ++ b ∷ [] → h b ≡ row
    → Entered first (take i (targets ways)) e0 (map f es) p0 (map h ps) row → Entered first (take (i + 1) (targets ways)) e0 (map f (set es (get_or ways i d).to y)) p0 (map h qs) row
entered_step {X = X} f h ways i d first e0 es x y p0 ps qs b row l low inside old new more brings was =
    subst (λ (xs : List (List ℕ)). Entered first (take (i + 1) (targets ways)) e0 (map f (set es t y)) p0 xs row) (sym (ap (map h) more ∙ map-append h ps (b ∷ []) ∙ ap (λ (r : List ℕ). map h ps ++ r ∷ []) brings))
    (subst (λ (xs : List (List ℕ)). Entered first (take (i + 1) (targets ways)) e0 xs p0 (map h ps ++ row ∷ []) row) (sym rows)
    (subst (λ (tos : List ℕ). Entered first tos e0 (set (map f es) t (get_or (map f es) t [] ++ i ∷ [])) p0 (map h ps ++ row ∷ []) row) (sym taken)
    (subst (λ (n : ℕ). Entered first (take i (targets ways) ++ t ∷ []) e0 (set (map f es) t (get_or (map f es) t [] ++ n ∷ [])) p0 (map h ps ++ row ∷ []) row) count
    (entered_more first (take i (targets ways)) t e0 (map f es) p0 (map h ps) row (omega (arith, low, count)) (omega (arith, inside, length-map es f)) was))))
  where
    t : ℕ
    t = (get_or ways i d).to

    count : length (take i (targets ways)) ≡ i
    count = length-take-le i (targets ways) (omega (arith, l, count_targets ways))

    taken : take (i + 1) (targets ways) ≡ take i (targets ways) ++ t ∷ []
    taken = take_more (targets ways) i 0 (omega (arith, l, count_targets ways)) ∙ ap (λ (n : ℕ). take i (targets ways) ++ n ∷ []) (target_at ways i d l)

    row_is : f y ≡ get_or (map f es) t [] ++ i ∷ []
    row_is = new ∙ ap (λ (z : X). f z ++ i ∷ []) old ∙ sym (ap (λ (r : List ℕ). r ++ i ∷ []) (get_or-map f es t x [] inside))

    rows : map f (set es t y) ≡ set (map f es) t (get_or (map f es) t [] ++ i ∷ [])
    rows = map-set f es t y ∙ ap (λ (r : List ℕ). set (map f es) t r) row_is
