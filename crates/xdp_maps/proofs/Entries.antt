-- Lists of pairs whose keys rise: what an edit at the place of a key does.
use Rattle.std.proofs.Common.{◌≡◌, ℕ, zero, suc, ◌+◌, ◌<◌, Bool, true, false, cond, ◌&&◌, List, [], ◌∷◌, length, get_or, set, Some, None, Result, Ok, Err, IfOk, IfErr, IsTrue, refl, sym, ap, subst, ◌∙◌, arith}
use Rattle.std.specs.declared.cmp.Ordering.{Ordering}
use Rattle.std.specs.declared.cmp.Ordering.TheVariants.{Less, Equal, Greater}
use Rattle.std.specs.List.{insert, remove}
use Rattle.std.specs.List.Sorted.{IsSearchInRange, IsBinarySearchResult, IsSortedBy}
use Rattle.std.specs.Ordering.{eq_by_cmp, is_eq, is_lt, ordering_reverse}
use Rattle.std.specs.Cmp.{IsTotalOrder, tied_itself}
use Rattle.std.specs.FinMap.{find, put, IsAntisymmetric}
use Rattle.std.specs.FinMap.Entries.{below_all}
use Rattle.std.proofs.lemmas.List.Sorted.{searchable_from_sorted}
use Rattle.xdp_maps.specs.Layout.{IsRising, IsAt, IsGapFor}
use Rattle.xdp_maps.proofs.ChoiceLaws.{eq_equal, swapped}

lt_less : (r : Ordering) → IsTrue (is_lt r) → r ≡ Less
lt_less Less h = refl
lt_less Equal h = cc
lt_less Greater h = cc

equal_not_greater : Equal ≡ Greater → ⊥
equal_not_greater h = cc

left_of : (a b : Bool) → IsTrue (a && b) → IsTrue a
left_of true b h = refl
left_of false b h = cc

right_of : (a b : Bool) → IsTrue (a && b) → IsTrue b
right_of true b h = h
right_of false b h = cc

both : (a b : Bool) → IsTrue a → IsTrue b → IsTrue (a && b)
both true b p q = q
both false b p q = cc

less_flip : {K : Type 0} {order : K → K → Ordering} → IsTotalOrder order → (a b : K) → order a b ≡ Less → order b a ≡ Greater
less_flip total a b h = total.antisymm b a ∙ ap ordering_reverse h

greater_flip : {K : Type 0} {order : K → K → Ordering} → IsTotalOrder order → (a b : K) → order a b ≡ Greater → order b a ≡ Less
greater_flip total a b h = total.antisymm b a ∙ ap ordering_reverse h

module _ {K X : Type 0} (order : K → K → Ordering) (total : IsTotalOrder order) (exact : IsAntisymmetric order) where
  -- a key below all pairs is below each
  below_each : (key : K) (es : List (K × X)) → IsTrue (below_all order key es) → (k : ℕ) (d : K × X) → k < length es → order key (get_or es k d).0 ≡ Less
  below_each key [] h k d lt = absurd (omega arith)
  below_each key (e ∷ es) h zero d lt = lt_less _ (left_of _ _ h)
  below_each key (e ∷ es) h (suc k) d lt = below_each key es (right_of _ _ h) k d (omega arith)

  -- each key is below the next
  rises : (es : List (K × X)) → IsRising order es → (k : ℕ) (d : K × X) → suc k < length es → order (get_or es k d).0 (get_or es (suc k) d).0 ≡ Less
  rises [] h k d lt = absurd (omega arith)
  rises (e ∷ es) h zero d lt = below_each e.0 es (left_of _ _ h) 0 d (omega arith)
  rises (e ∷ es) h (suc k) d lt = rises es (right_of _ _ h) k d (omega arith)

  sorted_by : (es : List (K × X)) → IsRising order es → IsSortedBy (λ a b. is_lt (order a.0 b.0)) es
  sorted_by es h k d low lt =
      let down : order (get_or es (suc k) d).0 (get_or es k d).0 ≡ Greater = less_flip total _ _ (rises es h k d (omega arith)) in
      let next : suc k ≡ k + 1 = omega arith in
      subst (λ j. is_lt (order (get_or es j d).0 (get_or es k d).0) ≡ false) next (ap is_lt down)

  -- what a binary search by key answers
  pub searched : (es : List (K × X)) (key : K) → IsRising order es → (r : Result ℕ ℕ) → IsSearchInRange r (length es) → IsBinarySearchResult (λ e. order e.0 key) es r → record { found : IfOk r (IsAt es key); absent : IfErr r (IsGapFor order es key) }
  searched es key h (Ok i) within equal = record { found = record { in_range = within; has_key = λ d. sym (exact _ _ (equal d)) }; absent = tt }
  searched es key h (Err i) within parted =
      let parts = parted (searchable_from_sorted total (λ e. e.0) es key (sorted_by es h)) in
      record {
        found = tt;
        absent = record { in_range = within; lower_before = λ k d lt. parts.0 k d (omega arith) lt; greater_after = parts.1 };
      }

  gap_head : (e : K × X) (es : List (K × X)) (key : K) → IsGapFor order (e ∷ es) key zero → order key e.0 ≡ Less
  gap_head e es key gap = greater_flip total _ _ (gap.greater_after 0 e (omega arith) (omega arith))

  gap_over : (e : K × X) (es : List (K × X)) (key : K) (i : ℕ) → IsGapFor order (e ∷ es) key (suc i) → order key e.0 ≡ Greater
  gap_over e es key i gap = less_flip total _ _ (gap.lower_before 0 e (omega arith))

  gap_first : (e : K × X) (es : List (K × X)) (key : K) → IsGapFor order (e ∷ es) key zero → IsGapFor order es key zero
  gap_first e es key gap = record { in_range = omega arith; lower_before = λ k d lt. absurd (omega arith); greater_after = λ k d le lt. gap.greater_after (suc k) d (omega arith) (omega arith) }

  gap_tail : (e : K × X) (es : List (K × X)) (key : K) (i : ℕ) → IsGapFor order (e ∷ es) key (suc i) → IsGapFor order es key i
  gap_tail e es key i gap = record { in_range = omega (arith, gap.in_range); lower_before = λ k d lt. gap.lower_before (suc k) d (omega arith); greater_after = λ k d le lt. gap.greater_after (suc k) d (omega arith) (omega arith) }

  -- where there is a gap for a key, it is not found
  pub find_gap : (es : List (K × X)) (key : K) (i : ℕ) → IsGapFor order es key i → find order key es ≡ None
  find_gap [] key i gap = refl
  find_gap (e ∷ es) key zero gap = rw (gap_head e es key gap) (find_gap es key zero (gap_first e es key gap))
  find_gap (e ∷ es) key (suc i) gap = rw (gap_over e es key i gap) (find_gap es key i (gap_tail e es key i gap))

  -- and the pair goes into the gap
  pub put_gap : (es : List (K × X)) (key : K) (v : X) (i : ℕ) → IsGapFor order es key i → put order key v es ≡ insert es i (key, v)
  put_gap [] key v zero gap = refl
  put_gap [] key v (suc i) gap = absurd (omega (arith, gap.in_range))
  put_gap (e ∷ es) key v zero gap = rw (gap_head e es key gap)
  put_gap (e ∷ es) key v (suc i) gap = rw (gap_over e es key i gap) (ap (λ (t : List (K × X)). e ∷ t) (put_gap es key v i (gap_tail e es key i gap)))

  -- a key further on is above the first
  above_first : (e : K × X) (es : List (K × X)) → IsRising order (e ∷ es) → (key : K) (i : ℕ) → IsAt (e ∷ es) key (suc i) → order key e.0 ≡ Greater
  above_first e es h key i at = less_flip total _ _ (subst (λ k. order e.0 k ≡ Less) (sym (at.has_key e)) (below_each e.0 es (left_of _ _ h) i e (omega (arith, at.in_range))))

  at_tail : (e : K × X) (es : List (K × X)) (key : K) (i : ℕ) → IsAt (e ∷ es) key (suc i) → IsAt es key i
  at_tail e es key i at = record { in_range = omega (arith, at.in_range); has_key = at.has_key }

  tie_first : (e : K × X) (es : List (K × X)) (key : K) → IsAt (e ∷ es) key zero → order key e.0 ≡ Equal
  tie_first e es key at = subst (λ k. order k e.0 ≡ Equal) (sym (at.has_key e)) (tied_itself total e.0)

  -- a key is found at its place
  pub find_at : (es : List (K × X)) (key : K) (i : ℕ) → IsRising order es → IsAt es key i → (d : K × X) → find order key es ≡ Some (get_or es i d).1
  find_at [] key i h at d = absurd (omega (arith, at.in_range))
  find_at (e ∷ es) key zero h at d = rw (tie_first e es key at)
  find_at (e ∷ es) key (suc i) h at d = rw (above_first e es h key i at) (find_at es key i (right_of _ _ h) (at_tail e es key i at) d)

  -- a new value for it goes to its place
  pub put_at : (es : List (K × X)) (key : K) (v : X) (i : ℕ) → IsRising order es → IsAt es key i → put order key v es ≡ set es i (key, v)
  put_at [] key v i h at = absurd (omega (arith, at.in_range))
  put_at (e ∷ es) key v zero h at = rw (tie_first e es key at) (ap (λ (k : K). (k, v) ∷ es) (sym (at.has_key e)))
  put_at (e ∷ es) key v (suc i) h at = rw (above_first e es h key i at) (ap (λ (t : List (K × X)). e ∷ t) (put_at es key v i (right_of _ _ h) (at_tail e es key i at)))

  -- no key of the tail ties with the first
  find_first : (e : K × X) (es : List (K × X)) → IsRising order (e ∷ es) → (q : K) → order q e.0 ≡ Equal → find order q es ≡ None
  find_first e es h q tie = find_gap es q zero (record {
    in_range = omega arith;
    lower_before = λ k d lt. absurd (omega arith);
    greater_after = λ k d le lt. less_flip total _ _ (subst (λ p. order p (get_or es k d).0 ≡ Less) (sym (exact _ _ tie)) (below_each e.0 es (left_of _ _ h) k d lt));
  })

  below_remove : (key : K) (es : List (K × X)) (i : ℕ) → IsTrue (below_all order key es) → IsTrue (below_all order key (remove es i))
  below_remove key [] zero h = refl
  below_remove key [] (suc i) h = refl
  below_remove key (e ∷ es) zero h = right_of _ _ h
  below_remove key (e ∷ es) (suc i) h = both _ _ (left_of _ _ h) (below_remove key es i (right_of _ _ h))

  -- the keys still rise where one is taken out
  pub rising-remove : (es : List (K × X)) (i : ℕ) → IsRising order es → IsRising order (remove es i)
  rising-remove [] zero h = refl
  rising-remove [] (suc i) h = refl
  rising-remove (e ∷ es) zero h = right_of _ _ h
  rising-remove (e ∷ es) (suc i) h = both _ _ (below_remove e.0 es i (left_of _ _ h)) (rising-remove es i (right_of _ _ h))

  -- no key ties with the first and with one further on
  apart_of : (e : K × X) (es : List (K × X)) → IsRising order (e ∷ es) → (key : K) (i : ℕ) → IsAt (e ∷ es) key (suc i) → (q : K) → IsTrue (eq_by_cmp order q e.0) → IsTrue (eq_by_cmp order q key) → ⊥
  apart_of e es h key i at q a b =
      let same : key ≡ e.0 = sym (exact q key (eq_equal _ b)) ∙ exact q e.0 (eq_equal _ a) in
      let above : order e.0 e.0 ≡ Greater = subst (λ k. order k e.0 ≡ Greater) same (above_first e es h key i at) in
      equal_not_greater (sym (tied_itself total e.0) ∙ above)

  -- it is not found any more, and the others are
  pub find-remove : (es : List (K × X)) (key : K) (i : ℕ) → IsRising order es → IsAt es key i → (q : K) → find order q (remove es i) ≡ cond (eq_by_cmp order q key) None (find order q es)
  find-remove [] key i h at q = absurd (omega (arith, at.in_range))
  find-remove (e ∷ es) key zero h at q = rw (at.has_key e)
      (elim (order q e.0) as (λ r. order q e.0 ≡ r → find order q es ≡ cond (is_eq r) None (cond (is_eq r) (Some e.1) (find order q es))) [
        | Less ↦ λ _. refl
        | Equal ↦ λ tie. find_first e es h q tie
        | Greater ↦ λ _. refl
      ] refl)
  find-remove (e ∷ es) key (suc i) h at q =
      let rest : find order q (remove es i) ≡ cond (eq_by_cmp order q key) None (find order q es) = find-remove es key i (right_of _ _ h) (at_tail e es key i at) q in
      ap (cond (eq_by_cmp order q e.0) (Some e.1)) rest
      ∙ swapped (eq_by_cmp order q e.0) (eq_by_cmp order q key) (Some e.1) None (find order q es) (apart_of e es h key i at q)
