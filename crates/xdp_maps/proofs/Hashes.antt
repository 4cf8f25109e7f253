-- The finite map of a list of pairs whose keys rise, and of the list after an edit.
use Rattle.std.proofs.Common.{◌≡◌, ℕ, ◌<◌, Bool, true, false, cond, List, [], ◌∷◌, arith, length, get_or, set, Some, None, Result, Ok, Err, IfOk, IfErr, IsTrue, T, refl, sym, ap, subst, ◌∙◌}
use Rattle.std.specs.declared.cmp.Ordering.{Ordering}
use Rattle.std.specs.Option.{is_some}
use Rattle.std.specs.Result.{is_ok}
use Rattle.std.specs.List.{remove}
use Rattle.std.specs.Ordering.{nat_cmp, eq_by_cmp}
use Rattle.std.specs.Cmp.{IsTotalOrder}
use Rattle.std.specs.Cmp.Lexicographic.{slice_cmp, nat_list_cmp_total}
use Rattle.std.specs.FinMap as map
use Rattle.std.specs.FinMap.{empty_of_len, IsAntisymmetric, find, put, same_entries_map, same_map, entries-from_sorted, entries-insert, entries_sorted, get-from_sorted, get-remove, len-entries, nat_cmp-IsAntisymmetric, slice_cmp-IsAntisymmetric}
use Rattle.std.proofs.lemmas.List.{get_or_default}
use Rattle.xdp_maps.specs.Layout.{IsRising, IsAt, IsGapFor}
use Rattle.xdp_maps.proofs.Entries.{find_at, find_gap, put_at, rising-remove, find-remove}

to_T : (b : Bool) → IsTrue b → T b
to_T b h = subst T (sym h) tt

pub from_T : (b : Bool) → T b → IsTrue b
from_T true h = refl
from_T false h = absurd h

pub order_total : IsTotalOrder (slice_cmp nat_cmp)
order_total = nat_list_cmp_total

pub order_exact : IsAntisymmetric (slice_cmp nat_cmp)
order_exact = slice_cmp-IsAntisymmetric nat_cmp-IsAntisymmetric

module _ {K X : Type 0} (order : K → K → Ordering) (total : IsTotalOrder order) (exact : IsAntisymmetric order) where
  pub entries_of_rising : (es : List (K × X)) → IsRising order es → map.entries (map.from_sorted {R = order} es) ≡ es
  entries_of_rising es h = entries-from_sorted order es (to_T _ h)

  pub get_of_rising : (es : List (K × X)) (q : K) → IsRising order es → map.get (map.from_sorted {R = order} es) q ≡ find order q es
  get_of_rising es q h = get-from_sorted order es q (to_T _ h)

  pub len_of_rising : (es : List (K × X)) → IsRising order es → map.len (map.from_sorted {R = order} es) ≡ length es
  len_of_rising es h = len-entries (map.from_sorted {R = order} es) ∙ ap length (entries_of_rising es h)

  entries_after_insert : (es : List (K × X)) (key : K) (v : X) → IsRising order es → map.entries (map.insert (map.from_sorted {R = order} es) key v) ≡ put order key v es
  entries_after_insert es key v h = entries-insert total (map.from_sorted {R = order} es) key v ∙ ap (put order key v) (entries_of_rising es h)

  pub rising-put : (es : List (K × X)) (key : K) (v : X) → IsRising order es → IsRising order (put order key v es)
  rising-put es key v h =
      let m = map.insert (map.from_sorted {R = order} es) key v in
      subst (IsRising order) (entries_after_insert es key v h) (from_T _ (entries_sorted m))

  -- to put a pair in its place is to insert it
  pub insert_of_rising : (es : List (K × X)) (key : K) (v : X) → IsRising order es → map.from_sorted {R = order} (put order key v es) ≡ map.insert (map.from_sorted es) key v
  insert_of_rising es key v h =
      same_entries_map _ _ (entries_of_rising (put order key v es) (rising-put es key v h) ∙ sym (entries_after_insert es key v h))

  -- to take a pair out is to remove its key
  pub remove_of_rising : (es : List (K × X)) (key : K) (i : ℕ) → IsRising order es → IsAt es key i → map.from_sorted {R = order} (remove es i) ≡ map.remove (map.from_sorted es) key
  remove_of_rising es key i h at = same_map total exact _ _ (λ q.
      get_of_rising (remove es i) q (rising-remove order total exact es i h)
      ∙ find-remove order total exact es key i h at q
      ∙ ap (cond (eq_by_cmp order q key) None) (sym (get_of_rising es q h))
      ∙ sym (get-remove total (map.from_sorted {R = order} es) key q))

  -- what a search for a key says of the map
  pub search_tells : (es : List (K × X)) (key : K) (r : Result ℕ ℕ) → IsRising order es → IfOk r (IsAt es key) → IfErr r (IsGapFor order es key) → is_ok r ≡ map.contains_key (map.from_sorted {R = order} es) key
  search_tells [] key (Ok i) h at gap = absurd (omega (arith, at.in_range))
  search_tells (e ∷ es) key (Ok i) h at gap = sym (ap is_some (get_of_rising (e ∷ es) key h ∙ find_at order total exact (e ∷ es) key i h at e))
  search_tells es key (Err i) h at gap = sym (ap is_some (get_of_rising es key h ∙ find_gap order total exact es key i gap))

  -- a list that is the old one with a pair put in its place
  pub edited : (es new : List (K × X)) (key : K) (v : X) → IsRising order es → put order key v es ≡ new → record { contents : map.from_sorted {R = order} new ≡ map.insert (map.from_sorted es) key v; rising : IsRising order new }
  edited es new key v h is = record {
    contents = subst (λ t. map.from_sorted {R = order} t ≡ map.insert (map.from_sorted es) key v) is (insert_of_rising es key v h);
    rising = subst (IsRising order) is (rising-put es key v h);
  }

  -- a new value written at the key's place
  pub written : (es : List (K × X)) (key : K) (i : ℕ) (e : K × X) (v : X) → IsRising order es → IsAt es key i → e ≡ get_or es i e → record {
    contents : map.from_sorted {R = order} (set es i (e.0, v)) ≡ map.insert (map.from_sorted es) key v;
    rising : IsRising order (set es i (e.0, v));
    value : map.get (map.from_sorted {R = order} es) key ≡ Some e.1;
  }
  written es key i e v h at is =
      let place = put_at order total exact es key v i h at in
      let same : key ≡ e.0 = at.has_key e ∙ sym (ap (λ (x : K × X). x.0) is) in
      let new : put order key v es ≡ set es i (e.0, v) = place ∙ ap (λ (k : K). set es i (k, v)) same in
      let facts = edited es (set es i (e.0, v)) key v h new in
      record {
        contents = facts.contents;
        rising = facts.rising;
        value = get_of_rising es key h ∙ find_at order total exact es key i h at e ∙ sym (ap (λ (x : K × X). Some x.1) is);
      }

  -- no pairs are the empty map
  pub empty_of_none : let none : List (K × X) = [] in map.from_sorted {R = order} none ≡ map.empty
  empty_of_none = empty_of_len _ (len_of_rising [] refl)

  -- the key of each pair is there
  pub contains_at : (es : List (K × X)) (i : ℕ) (d : K × X) → IsRising order es → i < length es → IsTrue (map.contains_key (map.from_sorted {R = order} es) (get_or es i d).0)
  contains_at es i d h lt =
      let at : IsAt es (get_or es i d).0 i = record { in_range = lt; has_key = λ e. ap (λ (x : K × X). x.0) (get_or_default es i d e lt) } in
      ap is_some (get_of_rising es (get_or es i d).0 h ∙ find_at order total exact es (get_or es i d).0 i h at d)
