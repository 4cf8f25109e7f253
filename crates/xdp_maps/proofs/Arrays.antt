-- The contents of an array, by its values.
use Rattle.std.proofs.Common.{◌≡◌, ℕ, zero, suc, ◌+◌, ◌<◌, ◌≤◌, ◌^◌, Bool, true, false, cond, List, [], ◌∷◌, length, get_or, set, Some, None, IsTrue, slice_get, Fits, w8, refl, sym, ap, subst, ◌∙◌, arith}
use Rattle.std.specs.declared.cmp.Ordering.{Ordering}
use Rattle.std.specs.declared.cmp.Ordering.TheVariants.{Equal}
use Rattle.std.specs.Int.{w32, from_le_bytes}
use Rattle.std.specs.Ordering.{nat_cmp, eq_by_cmp, is_eq}
use Rattle.std.specs.Cmp.{IsTotalOrder, tied_itself}
use Rattle.std.specs.Cmp.Lexicographic.{slice_cmp}
use Rattle.std.specs.FinMap as map
use Rattle.std.specs.FinMap.{IsAntisymmetric, find, get-from_entries, get-insert, same_map}
use Rattle.std.proofs.lemmas.Nat.{le_bytes_4}
use Rattle.std.proofs.lemmas.Option.{slice_get-get_or}
use Rattle.byteorder.specs.Numbers.{little_number-reads_back, little_from-lt}
use Rattle.xdp_maps.specs.Contents.{index_key, index_of, indexed, array_of}
use Rattle.xdp_maps.proofs.ChoiceLaws.{swapped, eq_equal}
use Rattle.xdp_maps.proofs.Hashes.{order_total, order_exact}
use Rattle.xdp_maps.proofs.ChoiceLaws.{shadowed}
use Rattle.xdp_maps.proofs.IndexLaws.{index_of-index_key}

-- an index is read back from its key
-- and a key of four bytes from its index
pub index_key-index_of : (key : List ℕ) → length key ≡ 4 → ((i : ℕ) → get_or key i 0 < 256) → index_key (index_of key) ≡ key
unfolding index_of index_key
index_key-index_of key four fits =
    let same : index_of key ≡ from_le_bytes w32 key = omega arith in
    le_bytes_4 key (index_of key) four fits same

-- what the type of bytes says of each
pub bytes_fit : (bytes : List ℕ) → ((i : ℕ) → Fits w8 (get_or bytes i 0)) → (i : ℕ) → get_or bytes i 0 < 256
bytes_fit bytes fit i = let h = fit i in omega arith

pub index_of-fits : (key : List ℕ) → ((i : ℕ) → get_or key i 0 < 256) → index_of key < 2 ^ 32
unfolding index_of
index_of-fits key fits = little_from-lt 0 4 key fits

pub index_key-injective : (i j : ℕ) → i < 2 ^ 32 → j < 2 ^ 32 → index_key i ≡ index_key j → i ≡ j
index_key-injective i j a b e = sym (index_of-index_key i a) ∙ ap index_of e ∙ index_of-index_key j b

not_tied : (b : Bool) → (IsTrue b → ⊥) → b ≡ false
not_tied b never = elim b as (λ x. (IsTrue x → ⊥) → x ≡ false) [ true ↦ λ n. absurd (n refl) | false ↦ λ _. refl ] never

module _ (order : List ℕ → List ℕ → Ordering) (total : IsTotalOrder order) (exact : IsAntisymmetric order) where
  -- two indexes never tie with one key
  apart : (q : List ℕ) (i j : ℕ) → i < 2 ^ 32 → j < 2 ^ 32 → i < j → IsTrue (eq_by_cmp order q (index_key i)) → IsTrue (eq_by_cmp order q (index_key j)) → ⊥
  apart q i j a b lt p r =
      let same : i ≡ j = index_key-injective i j a b (sym (exact q (index_key i) (eq_equal _ p)) ∙ exact q (index_key j) (eq_equal _ r)) in
      omega arith

  -- an index finds its value
  find_indexed : (vs : List (List ℕ)) (j k : ℕ) → j + k < 2 ^ 32 → find order (index_key (j + k)) (indexed j vs) ≡ slice_get vs k
  find_indexed [] j k h = refl
  find_indexed (v ∷ vs) j zero h =
      let here : j + 0 ≡ j = omega arith in
      let tie : eq_by_cmp order (index_key (j + 0)) (index_key j) ≡ true = ap is_eq (subst (λ i. order (index_key i) (index_key j) ≡ Equal) (sym here) (tied_itself total (index_key j))) in
      ap (λ b. cond b (Some v) (find order (index_key (j + 0)) (indexed (j + 1) vs))) tie
  find_indexed (v ∷ vs) j (suc k) h =
      let q = index_key (j + suc k) in
      let itself : IsTrue (eq_by_cmp order q q) = ap is_eq (tied_itself total q) in
      let no : eq_by_cmp order q (index_key j) ≡ false = not_tied _ (λ tie. apart q j (j + suc k) (omega arith) h (omega arith) tie itself) in
      let moved : j + suc k ≡ (j + 1) + k = omega arith in
      let later : find order q (indexed (j + 1) vs) ≡ slice_get vs k = subst (λ i. find order (index_key i) (indexed (j + 1) vs) ≡ slice_get vs k) (sym moved) (find_indexed vs (j + 1) k (omega arith)) in
      ap (λ b. cond b (Some v) (find order q (indexed (j + 1) vs))) no ∙ later

  -- a written value is found under its index, and the others are as before
  find-set : (vs : List (List ℕ)) (j k : ℕ) (v : List ℕ) → j + length vs ≤ 2 ^ 32 → k < length vs → (q : List ℕ) → find order q (indexed j (set vs k v)) ≡ cond (eq_by_cmp order q (index_key (j + k))) (Some v) (find order q (indexed j vs))
  find-set [] j k v few lt q = absurd (omega arith)
  find-set (x ∷ vs) j zero v few lt q =
      let here : j ≡ j + 0 = omega arith in
      subst (λ i. find order q (indexed j (v ∷ vs)) ≡ cond (eq_by_cmp order q (index_key i)) (Some v) (find order q (indexed j (x ∷ vs)))) here (shadowed (eq_by_cmp order q (index_key j)) (Some v) (Some x) _)
  find-set (x ∷ vs) j (suc k) v few lt q =
      let moved : (j + 1) + k ≡ j + suc k = omega arith in
      let later : find order q (indexed (j + 1) (set vs k v)) ≡ cond (eq_by_cmp order q (index_key (j + suc k))) (Some v) (find order q (indexed (j + 1) vs)) = subst (λ i. find order q (indexed (j + 1) (set vs k v)) ≡ cond (eq_by_cmp order q (index_key i)) (Some v) (find order q (indexed (j + 1) vs))) moved (find-set vs (j + 1) k v (omega arith) (omega arith) q) in
      ap (cond (eq_by_cmp order q (index_key j)) (Some x)) later
      ∙ swapped (eq_by_cmp order q (index_key j)) (eq_by_cmp order q (index_key (j + suc k))) (Some x) (Some v) _ (apart q j (j + suc k) (omega arith) (omega arith) (omega arith))

pub slice_get-past : {X : Type 0} (xs : List X) (i : ℕ) → length xs ≤ i → slice_get xs i ≡ None
slice_get-past [] i h = refl
slice_get-past (x ∷ xs) zero h = absurd (omega arith)
slice_get-past (x ∷ xs) (suc i) h = slice_get-past xs i (omega arith)

-- what an array holds under a key
pub get-array_of : (vs : List (List ℕ)) (key : List ℕ) → length key ≡ 4 → ((i : ℕ) → get_or key i 0 < 256) → map.get (array_of vs) key ≡ slice_get vs (index_of key)
get-array_of vs key four fits =
    let h = index_of-fits key fits in
    let zero_first : 0 + index_of key ≡ index_of key = omega arith in
    let found = find_indexed (slice_cmp nat_cmp) order_total order_exact vs 0 (index_of key) (omega arith) in
    let same : index_key (0 + index_of key) ≡ key = ap index_key zero_first ∙ index_key-index_of key four fits in
    get-from_entries order_total (indexed 0 vs) key ∙ subst (λ q. find (slice_cmp nat_cmp) q (indexed 0 vs) ≡ slice_get vs (index_of key)) same found

-- to write a value is to insert it under its key
pub array_of-set : (vs : List (List ℕ)) (key v : List ℕ) → length vs ≤ 2 ^ 32 → length key ≡ 4 → ((i : ℕ) → get_or key i 0 < 256) → index_of key < length vs → array_of (set vs (index_of key) v) ≡ map.insert (array_of vs) key v
array_of-set vs key v few four fits lt = same_map order_total order_exact _ _ (λ q.
    let same : index_key (0 + index_of key) ≡ key = ap index_key (omega arith) ∙ index_key-index_of key four fits in
    get-from_entries order_total (indexed 0 (set vs (index_of key) v)) q
    ∙ find-set (slice_cmp nat_cmp) order_total order_exact vs 0 (index_of key) v (omega arith) lt q
    ∙ ap (λ k. cond (eq_by_cmp (slice_cmp nat_cmp) q k) (Some v) (find (slice_cmp nat_cmp) q (indexed 0 vs))) same
    ∙ ap (cond (eq_by_cmp (slice_cmp nat_cmp) q key) (Some v)) (sym (get-from_entries order_total (indexed 0 vs) q))
    ∙ sym (get-insert order_total (array_of vs) key v q))

pub get_inside : (vs : List (List ℕ)) (key d : List ℕ) → length key ≡ 4 → ((i : ℕ) → get_or key i 0 < 256) → index_of key < length vs → map.get (array_of vs) key ≡ Some (get_or vs (index_of key) d)
get_inside vs key d four fits lt = get-array_of vs key four fits ∙ slice_get-get_or vs (index_of key) d lt

pub get_past : (vs : List (List ℕ)) (key : List ℕ) → length key ≡ 4 → ((i : ℕ) → get_or key i 0 < 256) → length vs ≤ index_of key → map.get (array_of vs) key ≡ None
get_past vs key four fits le = get-array_of vs key four fits ∙ slice_get-past vs (index_of key) le
