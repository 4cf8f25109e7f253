-- What is read in a dump.
use Rattle.std.specs.Prelude.{replicate, if◌then◌else◌, ◌==◌}
use Rattle.std.proofs.Common.{◌≡◌, ℕ, zero, suc, ◌+◌, ◌*◌, ◌-◌, ◌<◌, ◌≤◌, ◌^◌, Bool, true, false, cond, Some, None, is_some, IsTrue, List, [], ◌∷◌, ◌++◌, length, map, take, drop, refl, sym, ap, ◌∙◌, subst, arith, length-append, append_assoc}
use Rattle.std.proofs.lemmas.List.{append-nil, take-take, length-map, take-append-le, drop-append-le, take_at, drop_at, take_all, length-drop, map-append}
use Rattle.std.proofs.lemmas.List.Concat.{flat_map-append}
use Rattle.std.proofs.lemmas.Bool.{lt-leb}
use Rattle.std.specs.List.{flat_map}
use Rattle.std.specs.Ordering.{nat_cmp, eq_by_cmp}
use Rattle.std.specs.Cmp.Lexicographic.{slice_cmp}
use Rattle.std.proofs.lemmas.Cmp.{nat_list_cmp_total}
use Rattle.std.specs.FinMap as finite
use Rattle.std.specs.FinMap.{IsAntisymmetric, nat_cmp-IsAntisymmetric, slice_cmp-IsAntisymmetric, find, get-from_entries, get-insert, same_map, from_entries_push, len-insert, len-empty}
use Rattle.beat_core.specs.Words.{low_bytes}
use Rattle.beat_core.specs.Beats.{beat_count}
use Rattle.xdp_maps.specs.declared.decl.MapKind.{MapKind}
use Rattle.xdp_maps.specs.declared.decl.MapKind.TheVariants.{Hash, Array}
use Rattle.xdp_maps.specs.declared.decl.MapDecl.{MapDecl}
use Rattle.xdp_maps.specs.Contents.{Contents, index_key, index_of, indexed, array_of, opened, opened_as}
use Rattle.xdp_maps.specs.Calls.{array_refusal, update_error_as, updated, unless}
use Rattle.realization.specs.HostHistory.Rows.{entry_of, bytes_of, row_length, row_length_as}
use Rattle.realization.specs.HostHistory.Host.{cut_in_rows}
use Rattle.port_drive.specs.Reading.{read_of, read_as, with_entry}
use Rattle.xdp_maps.proofs.ChoiceLaws.{eq_equal, swapped, shadowed}
use Rattle.xdp_maps.proofs.IndexLaws.{index_of-index_key}

-- ---- words, row by row
pub cut-append : (count n : ℕ) (a b : List ℕ) → length a ≡ count * n → cut_in_rows count n (a ++ b) ≡ cut_in_rows count n a
cut-append zero n a b e = refl
cut-append (suc count) n a b e =
    let long : n ≤ length a = omega arith in
    let rest : length (drop n a) ≡ count * n = omega (arith, length-drop n a) in
    ap (λ l. l ∷ cut_in_rows count n (drop n (a ++ b))) (take-append-le n a b long)
    ∙ ap (λ l. take n a ∷ cut_in_rows count n l) (drop-append-le n a b long)
    ∙ ap (λ l. take n a ∷ l) (cut-append count n (drop n a) b rest)

pub cut-step : (left count n : ℕ) (row rest words : List ℕ) → left ≡ suc count → length row ≡ n → words ≡ row ++ rest → cut_in_rows left n words ≡ row ∷ cut_in_rows count n rest
cut-step left count n row rest words more len is =
    ap (λ k. cut_in_rows k n words) more ∙ ap (cut_in_rows (suc count) n) is
    ∙ ap (λ l. l ∷ cut_in_rows count n (drop n (row ++ rest))) (take_at row rest n len) ∙ ap (λ l. row ∷ cut_in_rows count n l) (drop_at row rest n len)

-- ---- entries of a hash
exact : IsAntisymmetric (slice_cmp nat_cmp)
exact = slice_cmp-IsAntisymmetric nat_cmp-IsAntisymmetric

get_of : (es : List (List ℕ × List ℕ)) (q : List ℕ) → finite.get (finite.from_entries {R = slice_cmp nat_cmp} es) q ≡ find (slice_cmp nat_cmp) q es
get_of es q = get-from_entries nat_list_cmp_total es q

find_other : (es : List (List ℕ × List ℕ)) (k v q : List ℕ) → eq_by_cmp (slice_cmp nat_cmp) q k ≡ false → find (slice_cmp nat_cmp) q (es ++ (k, v) ∷ []) ≡ find (slice_cmp nat_cmp) q es
find_other [] k v q apart = ap (λ b. cond b (Some v) None) apart
find_other (e ∷ es) k v q apart = ap (cond (eq_by_cmp (slice_cmp nat_cmp) q e.0) (Some e.1)) (find_other es k v q apart)

tied_first : (e : List ℕ × List ℕ) (es : List (List ℕ × List ℕ)) (k v q : List ℕ) → k ≡ e.0 → find (slice_cmp nat_cmp) q ((e ∷ es) ++ (k, v) ∷ []) ≡ find (slice_cmp nat_cmp) q (e ∷ es)
tied_first e es k v q is =
    elim (eq_by_cmp (slice_cmp nat_cmp) q e.0) as (λ b. eq_by_cmp (slice_cmp nat_cmp) q e.0 ≡ b → cond b (Some e.1) (find (slice_cmp nat_cmp) q (es ++ (k, v) ∷ [])) ≡ cond b (Some e.1) (find (slice_cmp nat_cmp) q es)) [
      | true ↦ λ _. refl
      | false ↦ λ apart. find_other es k v q (ap (eq_by_cmp (slice_cmp nat_cmp) q) is ∙ apart)
    ] refl

-- where a key is found, one more entry with it is not
find_first : (es : List (List ℕ × List ℕ)) (k v q w : List ℕ) → find (slice_cmp nat_cmp) k es ≡ Some w → find (slice_cmp nat_cmp) q (es ++ (k, v) ∷ []) ≡ find (slice_cmp nat_cmp) q es
find_first [] k v q w there = absurd (none_some w there)
  where
    none_some : (w : List ℕ) → None ≡ Some w → ⊥
    none_some w e = cc
find_first (e ∷ es) k v q w there =
    elim (eq_by_cmp (slice_cmp nat_cmp) k e.0) as (λ b. eq_by_cmp (slice_cmp nat_cmp) k e.0 ≡ b → cond b (Some e.1) (find (slice_cmp nat_cmp) k es) ≡ Some w → find (slice_cmp nat_cmp) q ((e ∷ es) ++ (k, v) ∷ []) ≡ find (slice_cmp nat_cmp) q (e ∷ es)) [
      | true ↦ λ tie _. tied_first e es k v q (exact k e.0 (eq_equal _ tie))
      | false ↦ λ _ later. ap (cond (eq_by_cmp (slice_cmp nat_cmp) q e.0) (Some e.1)) (find_first es k v q w later)
    ] refl there

from_entries_more : (es : List (List ℕ × List ℕ)) (e : List ℕ × List ℕ) → finite.from_entries {R = slice_cmp nat_cmp} (es ++ e ∷ []) ≡ with_entry (finite.from_entries es) (e ∷ [])
from_entries_more es e =
    elim (finite.get (finite.from_entries {R = slice_cmp nat_cmp} es) e.0) as (λ o. finite.get (finite.from_entries {R = slice_cmp nat_cmp} es) e.0 ≡ o → finite.from_entries {R = slice_cmp nat_cmp} (es ++ e ∷ []) ≡ (if is_some o then finite.from_entries es else finite.insert (finite.from_entries es) e.0 e.1)) [
      | None ↦ λ none. from_entries_push nat_list_cmp_total exact es e.0 e.1 (sym (get_of es e.0) ∙ none)
      | Some w ↦ λ there. same_map nat_list_cmp_total exact _ _ (λ q. get_of (es ++ e ∷ []) q ∙ find_first es e.0 e.1 q w (sym (get_of es e.0) ∙ there) ∙ sym (get_of es q))
    ] refl

-- a slot's entry after those that were read
slot_entry : (d : MapDecl) (es : List (List ℕ × List ℕ)) (used : ℕ) (words : List ℕ) → finite.from_entries {R = slice_cmp nat_cmp} (es ++ (entry_of d (used ∷ words) ++ [])) ≡ with_entry (finite.from_entries es) (entry_of d (used ∷ words))
slot_entry d es used words =
    elim (used == 0) as (λ b. finite.from_entries {R = slice_cmp nat_cmp} (es ++ ((if b then [] else slot) ++ [])) ≡ with_entry (finite.from_entries es) (if b then [] else slot)) [
      | true ↦ ap finite.from_entries (append-nil es)
      | false ↦ from_entries_more es (bytes_of d.key (take (beat_count d.key) words), bytes_of d.value (drop (beat_count d.key) words))
    ]
  where
    slot : List (List ℕ × List ℕ)
    slot = (bytes_of d.key (take (beat_count d.key) words), bytes_of d.value (drop (beat_count d.key) words)) ∷ []

pub slot_more : (d : MapDecl) (rows : List (List ℕ)) (row : List ℕ) → 0 < length row → with_entry (read_as d rows Hash) (entry_of d row) ≡ read_as d (rows ++ row ∷ []) Hash
slot_more d rows [] some = absurd (omega arith)
slot_more d rows (used ∷ words) some =
    sym (ap finite.from_entries (flat_map-append (entry_of d) rows ((used ∷ words) ∷ [])) ∙ slot_entry d (flat_map (entry_of d) rows) used words)

-- there are no more of them than rows
at_most : (b : Bool) (n all k : ℕ) → all ≡ cond b n (n + 1) → n ≤ k → all ≤ suc k
at_most true n all k e le = omega arith
at_most false n all k e le = omega arith

few_entries : (es : List (List ℕ × List ℕ)) → finite.len (finite.from_entries {R = slice_cmp nat_cmp} es) ≤ length es
few_entries [] = omega (arith, len-empty (slice_cmp nat_cmp) (List ℕ))
few_entries (e ∷ es) = at_most (finite.contains_key (finite.from_entries {R = slice_cmp nat_cmp} es) e.0) (finite.len (finite.from_entries {R = slice_cmp nat_cmp} es)) _ (length es) (len-insert nat_list_cmp_total (finite.from_entries es) e.0 e.1) (few_entries es)

few_in_row : (d : MapDecl) (row : List ℕ) → length (entry_of d row) ≤ 1
few_in_row d [] = omega arith
few_in_row d (used ∷ words) = by_use (used == 0) ((bytes_of d.key (take (beat_count d.key) words), bytes_of d.value (drop (beat_count d.key) words)) ∷ []) refl
  where
    by_use : (b : Bool) (one : List (List ℕ × List ℕ)) → length one ≡ 1 → length (if b then [] else one) ≤ 1
    by_use true one e = omega arith
    by_use false one e = omega arith

few_slots : (d : MapDecl) (rows : List (List ℕ)) → length (flat_map (entry_of d) rows) ≤ length rows
few_slots d [] = omega arith
few_slots d (row ∷ rows) = omega (arith, length-append (entry_of d row) (flat_map (entry_of d) rows), few_in_row d row, few_slots d rows)

pub room_left : (d : MapDecl) (rows : List (List ℕ)) → finite.len (read_as d rows Hash) ≤ length rows
room_left d rows = omega (arith, few_entries (flat_map (entry_of d) rows), few_slots d rows)

-- ---- what an update does to an array
inside_array : (cap index : ℕ) (c new : Contents) → index < cap → unless (array_refusal cap index 0) c new ≡ new
inside_array cap index c new lt = rw (lt-leb cap index lt) refl

pub value_updated : (d : MapDecl) (c : Contents) (index : ℕ) (key value : List ℕ) → d.kind ≡ Array → key ≡ index_key index → index < d.cap → index < 2 ^ 32 → updated d c key value 0 ≡ finite.insert c (index_key index) value
value_updated d c index key value array is lt few =
    ap (λ k. updated d c k value 0) is
    ∙ ap (λ k. unless (update_error_as k d c (index_key index) 0) c (finite.insert c (index_key index) value)) array
    ∙ ap (λ i. unless (array_refusal d.cap i 0) c (finite.insert c (index_key index) value)) (index_of-index_key index few)
    ∙ inside_array d.cap index c (finite.insert c (index_key index) value) lt

-- ---- values of an array
-- two indexes never tie with one key
apart : (q : List ℕ) (i j : ℕ) → i < j → j < 2 ^ 32 → IsTrue (eq_by_cmp (slice_cmp nat_cmp) q (index_key i)) → IsTrue (eq_by_cmp (slice_cmp nat_cmp) q (index_key j)) → ⊥
apart q i j lt few p r =
    let same : index_key i ≡ index_key j = sym (exact q (index_key i) (eq_equal _ p)) ∙ exact q (index_key j) (eq_equal _ r) in
    let clash : i ≡ j = sym (index_of-index_key i (omega arith)) ∙ ap index_of same ∙ index_of-index_key j few in
    omega arith

-- a value written over another is found under its index
find-written : (a b : List (List ℕ)) (j k : ℕ) (old new q : List ℕ) → j + length a ≡ k → k < 2 ^ 32
    → find (slice_cmp nat_cmp) q (indexed j (a ++ new ∷ b)) ≡ cond (eq_by_cmp (slice_cmp nat_cmp) q (index_key k)) (Some new) (find (slice_cmp nat_cmp) q (indexed j (a ++ old ∷ b)))
find-written [] b j k old new q at few =
    let here : j ≡ k = omega arith in
    subst (λ i. find (slice_cmp nat_cmp) q (indexed j (new ∷ b)) ≡ cond (eq_by_cmp (slice_cmp nat_cmp) q (index_key i)) (Some new) (find (slice_cmp nat_cmp) q (indexed j (old ∷ b)))) here (shadowed (eq_by_cmp (slice_cmp nat_cmp) q (index_key j)) (Some new) (Some old) _)
find-written (x ∷ a) b j k old new q at few =
    ap (cond (eq_by_cmp (slice_cmp nat_cmp) q (index_key j)) (Some x)) (find-written a b (j + 1) k old new q (omega arith) few)
    ∙ swapped (eq_by_cmp (slice_cmp nat_cmp) q (index_key j)) (eq_by_cmp (slice_cmp nat_cmp) q (index_key k)) (Some x) (Some new) _ (apart q j k (omega arith) few)

array_written : (a b : List (List ℕ)) (k : ℕ) (old new : List ℕ) → length a ≡ k → k < 2 ^ 32 → finite.insert (array_of (a ++ old ∷ b)) (index_key k) new ≡ array_of (a ++ new ∷ b)
array_written a b k old new at few = same_map nat_list_cmp_total exact _ _ (λ q.
    get-insert nat_list_cmp_total (array_of (a ++ old ∷ b)) (index_key k) new q
    ∙ ap (cond (eq_by_cmp (slice_cmp nat_cmp) q (index_key k)) (Some new)) (get_of (indexed 0 (a ++ old ∷ b)) q)
    ∙ sym (get_of (indexed 0 (a ++ new ∷ b)) q ∙ find-written a b 0 k old new q (omega arith) few))

-- the value under the next index
pub value_more : (d : MapDecl) (rows : List (List ℕ)) (row : List ℕ) (index : ℕ) → length rows ≡ index → index < d.cap → index < 2 ^ 32 → finite.insert (read_as d rows Array) (index_key index) (bytes_of d.value row) ≡ read_as d (rows ++ row ∷ []) Array
value_more d rows row index at lt few =
    let zeros : List ℕ = replicate d.value 0 in
    let left : d.cap - length rows ≡ suc (d.cap - length (rows ++ row ∷ [])) = omega (arith, length-append rows (row ∷ [])) in
    ap (λ n. finite.insert (array_of (map (bytes_of d.value) rows ++ replicate n zeros)) (index_key index) (bytes_of d.value row)) left
    ∙ array_written (map (bytes_of d.value) rows) (replicate (d.cap - length (rows ++ row ∷ [])) zeros) index zeros (bytes_of d.value row) (length-map rows (bytes_of d.value) ∙ at) few
    ∙ ap array_of (sym (ap (λ l. l ++ replicate (d.cap - length (rows ++ row ∷ [])) zeros) (map-append (bytes_of d.value) rows (row ∷ [])) ∙ append_assoc (map (bytes_of d.value) rows) (bytes_of d.value row ∷ []) _))

-- ---- before the first row and after the last
none_read : (kind : MapKind) (d : MapDecl) → opened_as kind d ≡ read_as d [] kind
none_read Hash d = refl
none_read Array d = ap (λ n. array_of (replicate n (replicate d.value 0))) (omega arith)

pub opened_is : (d : MapDecl) → opened d ≡ read_of d []
unfolding opened
opened_is d = none_read d.kind d

-- ---- the bytes of words, of which some were written

pub first_bytes : (b words : List ℕ) (i n : ℕ) → i ≡ length words → take (8 * i) b ≡ flat_map (low_bytes 8) (take i words) → n ≤ 8 * length words → take n b ≡ bytes_of n words
first_bytes b words i n all so_far le =
    sym (take-take n (8 * i) b (omega arith)) ∙ ap (take n) so_far ∙ ap (λ l. take n (flat_map (low_bytes 8) l)) (take_all i words (omega arith))

-- ---- one more row
pub room_before : (d : MapDecl) (c : Contents) (index : ℕ) → d.kind ≡ Hash → (rows : List (List ℕ)) × (length rows ≡ index) × (c ≡ read_of d rows) → index < d.cap → finite.len c < d.cap
room_before d c index hash h lt =
    let len : finite.len c ≡ finite.len (read_as d h.0 Hash) = ap finite.len (h.2 ∙ ap (λ k. read_as d h.0 k) hash) in
    omega (arith, len, room_left d h.0, h.1)

pub slot_step : (d : MapDecl) (c : Contents) (rows : List (List ℕ)) (row : List ℕ) → d.kind ≡ Hash → c ≡ read_of d rows → 0 < length row → with_entry c (entry_of d row) ≡ read_of d (rows ++ row ∷ [])
slot_step d c rows row hash is some =
    ap (λ x. with_entry x (entry_of d row)) (is ∙ ap (λ k. read_as d rows k) hash) ∙ slot_more d rows row some ∙ ap (λ k. read_as d (rows ++ row ∷ []) k) (sym hash)

pub value_step : (d : MapDecl) (c : Contents) (rows : List (List ℕ)) (row : List ℕ) (index : ℕ) → d.kind ≡ Array → c ≡ read_of d rows → length rows ≡ index → index < d.cap → index < 2 ^ 32 → finite.insert c (index_key index) (bytes_of d.value row) ≡ read_of d (rows ++ row ∷ [])
value_step d c rows row index array is at lt few =
    ap (λ x. finite.insert x (index_key index) (bytes_of d.value row)) (is ∙ ap (λ k. read_as d rows k) array) ∙ value_more d rows row index at lt few ∙ ap (λ k. read_as d (rows ++ row ∷ []) k) (sym array)

pub row_some : (d : MapDecl) (row : List ℕ) → d.kind ≡ Hash → length row ≡ row_length d → 0 < length row
row_some d row hash len = let long : row_length d ≡ 1 + beat_count d.key + beat_count d.value = ap (λ k. row_length_as k d) hash in omega arith
