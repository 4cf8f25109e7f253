-- Rows of words that the host writes over the slots of a map that holds nothing yet.
use Rattle.std.proofs.Common.{◌≡◌, ◌⊎◌, inl, inr, ℕ, zero, suc, ◌+◌, ◌-◌, ◌<◌, ◌≤◌, true, false, Option, Some, None, List, [], ◌∷◌, ◌++◌, length, get_or, refl, sym, ◌∙◌, ap, subst, arith, IsTrue}
use Rattle.std.specs.Prelude.{nat_lt, nat_le, ◌==◌, replicate, map as map_list, unwrap_or, is_some, IfSome, slice_get}
use Rattle.std.specs.List.{range_with_len}
use Rattle.std.specs.Ordering.{nat_cmp}
use Rattle.std.specs.Cmp.Lexicographic.{slice_cmp}
use Rattle.std.specs.FinMap as map
use Rattle.std.specs.FinMap.{len-empty, len-entries}
use Rattle.std.proofs.lemmas.Bool.{cases_lt}
use Rattle.std.proofs.lemmas.Bool.Decides.{nat_tests}
use Rattle.std.proofs.lemmas.List.{length-replicate, nil_from_length, get_or_past}
use Rattle.std.proofs.lemmas.List.Elements.{All-get_or}
use Rattle.realization.specs.list_laws.Bytes.{IsBytes as AreBytes}
use Rattle.realization.specs.beat_core.Beats.{beat_count}
use Rattle.hazard_core.specs.xdp_maps.declared.decl.MapKind.{MapKind}
use Rattle.hazard_core.specs.xdp_maps.declared.decl.MapKind.TheVariants.{Hash, Array}
use Rattle.hazard_core.specs.xdp_maps.declared.decl.MapDecl.{MapDecl}
use Rattle.hazard_core.specs.xdp_maps.Contents.{Contents, IsBytes, IsOver, IsWithinLimits, IsFilled_as, TakesKey, TakesKey_as, limits_as, index_key, index_of, opened, opened_as}
use Rattle.hazard_core.specs.xdp_maps.Calls.{entry_as}
use Rattle.hazard_core.specs.xdp_maps.Laws.{IndexLaws, KeepsOver, PairLaws}
use Rattle.hazard_core.specs.declared.slot.Slot.{Slot}
use Rattle.hazard_core.specs.declared.access.Word.{Word}
use Rattle.hazard_core.specs.declared.access.Word.TheVariants.{Key, Value}
use Rattle.hazard_core.specs.Tables.{empty_slot, pair_slot, index_slot, loaded_as}
use Rattle.hazard_core.specs.Commits.{word_as, written_word}
use Rattle.realization.specs.HostHistory.Rows.{words_of, slot_of, rows_as, rows_of}
use Rattle.realization.proofs.WordLaws.{length-words_of}
use Rattle.pipe_core.proofs.HostRuns.Words.{words_in, words_fill}

-- ---- a row over a slot

abbrev pub row_slot : MapDecl → ℕ → List ℕ → Slot → Slot
row_slot d w [] s = s
row_slot d w (x ∷ xs) s = row_slot d (w + 1) xs (written_word s (word_as d.kind d w) x)

-- the rows over the slots from the first on
abbrev pub rows_over : MapDecl → List (List ℕ) → List Slot → List Slot
rows_over d [] slots = slots
rows_over d (r ∷ rows) [] = []
rows_over d (r ∷ rows) (s ∷ slots) = row_slot d 0 r s ∷ rows_over d rows slots

row_append : (d : MapDecl) (w : ℕ) (xs ys : List ℕ) (s : Slot) → row_slot d w (xs ++ ys) s ≡ row_slot d (w + length xs) ys (row_slot d w xs s)
row_append d w [] ys s = ap (λ (k : ℕ). row_slot d k ys s) (omega arith)
row_append d w (x ∷ xs) ys s =
    row_append d (w + 1) xs ys (written_word s (word_as d.kind d w) x)
    ∙ ap (λ (k : ℕ). row_slot d k ys (row_slot d (w + 1) xs (written_word s (word_as d.kind d w) x))) (omega arith)

-- words that are all words of the key, or all of the value
key_words : (d : MapDecl) (off w : ℕ) (xs : List ℕ) (s : Slot) → ((u : ℕ) → u < w + length xs → word_as d.kind d (off + u) ≡ Key u) → row_slot d (off + w) xs s ≡ record s { key = words_in w xs s.key }
key_words d off w [] s h = refl
key_words d off w (x ∷ xs) s h =
    ap (λ (y : Word). row_slot d (off + w + 1) xs (written_word s y x)) (h w (omega arith))
    ∙ ap (λ (k : ℕ). row_slot d k xs (written_word s (Key w) x)) (omega arith)
    ∙ key_words d off (w + 1) xs (written_word s (Key w) x) (λ u l. h u (omega (arith, l)))

value_words : (d : MapDecl) (off w : ℕ) (xs : List ℕ) (s : Slot) → ((u : ℕ) → u < w + length xs → word_as d.kind d (off + u) ≡ Value u) → row_slot d (off + w) xs s ≡ record s { value = words_in w xs s.value }
value_words d off w [] s h = refl
value_words d off w (x ∷ xs) s h =
    ap (λ (y : Word). row_slot d (off + w + 1) xs (written_word s y x)) (h w (omega arith))
    ∙ ap (λ (k : ℕ). row_slot d k xs (written_word s (Value w) x)) (omega arith)
    ∙ value_words d off (w + 1) xs (written_word s (Value w) x) (λ u l. h u (omega (arith, l)))

-- which word is which
pub hash_key : (d : MapDecl) (u : ℕ) → u < beat_count d.key → word_as Hash d (1 + u) ≡ Key u
hash_key d u l =
    let first : (1 + u == 0) ≡ false = grind (arith, nat_tests) in
    let below : nat_le (1 + u) (beat_count d.key) ≡ true = grind (arith, nat_tests, l) in
    let same : 1 + u - 1 ≡ u = omega arith in
    rw (first, below, same) refl

pub hash_value : (d : MapDecl) (u : ℕ) → u < beat_count d.value → word_as Hash d (1 + beat_count d.key + u) ≡ Value u
hash_value d u l =
    let w : ℕ = 1 + beat_count d.key + u in
    let first : (w == 0) ≡ false = grind (arith, nat_tests) in
    let past : nat_le w (beat_count d.key) ≡ false = grind (arith, nat_tests) in
    let same : w - 1 - beat_count d.key ≡ u = omega arith in
    let below : nat_lt u (beat_count d.value) ≡ true = grind (arith, nat_tests, l) in
    rw (first, past, same, below) refl

pub array_value : (d : MapDecl) (u : ℕ) → u < beat_count d.value → word_as Array d (0 + u) ≡ Value u
array_value d u l =
    let below : nat_lt u (beat_count d.value) ≡ true = grind (arith, nat_tests, l) in
    let same : 0 + u ≡ u = omega arith in
    rw (same, below) refl

-- ---- bytes

pub all_bytes : (n : ℕ) (xs : List ℕ) → IsBytes n xs → AreBytes xs
all_bytes n xs h i = by (cases_lt i (length xs))
  where
    by : ◌⊎◌ (i < length xs) (length xs ≤ i) → get_or xs i 0 < 256
    by (inl l) = All-get_or (λ b. b < 256) xs i 0 l h.bytes_fit
    by (inr l) = let e = get_or_past xs i 0 l in omega (arith, e)

-- ---- one row

hash_row : (d : MapDecl) → d.kind ≡ Hash → (key value : List ℕ) → IsBytes d.key key → IsBytes d.value value → row_slot d 0 (slot_of (key, value)) (empty_slot d) ≡ pair_slot (key, value)
hash_row d kind key value k v =
    ap (λ (y : Word). row_slot d (0 + 1) (words_of key ++ words_of value) (written_word (empty_slot d) y 1)) (ap (λ m. word_as m d 0) kind)
    ∙ row_append d 1 (words_of key) (words_of value) (record (empty_slot d) { used = true })
    ∙ ap (row_slot d (1 + length (words_of key)) (words_of value)) (key_words d 1 0 (words_of key) (record (empty_slot d) { used = true }) (λ u l. ap (λ m. word_as m d (1 + u)) kind ∙ hash_key d u (omega (arith, l, long_key))))
    ∙ ap (λ (bytes : List ℕ). row_slot d (1 + length (words_of key)) (words_of value) (record (empty_slot d) { used = true; key = bytes })) (words_fill (replicate d.key 0) key (length-replicate d.key 0 ∙ sym k.len) (all_bytes d.key key k))
    ∙ ap (λ (w : ℕ). row_slot d w (words_of value) (record (empty_slot d) { used = true; key = key })) (omega (arith, long_key))
    ∙ value_words d (1 + beat_count d.key) 0 (words_of value) (record (empty_slot d) { used = true; key = key }) (λ u l. ap (λ m. word_as m d (1 + beat_count d.key + u)) kind ∙ hash_value d u (omega (arith, l, long_value)))
    ∙ ap (λ (bytes : List ℕ). pair_slot (key, bytes)) (words_fill (replicate d.value 0) value (length-replicate d.value 0 ∙ sym v.len) (all_bytes d.value value v))
  where
    long_key : length (words_of key) ≡ beat_count d.key
    long_key = length-words_of key ∙ ap beat_count k.len

    long_value : length (words_of value) ≡ beat_count d.value
    long_value = length-words_of value ∙ ap beat_count v.len

array_row : (d : MapDecl) → d.kind ≡ Array → (s : Slot) (value : List ℕ) → length s.value ≡ d.value → IsBytes d.value value → row_slot d 0 (words_of value) s ≡ record s { value = value }
array_row d kind s value long v =
    value_words d 0 0 (words_of value) s (λ u l. ap (λ m. word_as m d (0 + u)) kind ∙ array_value d u (omega (arith, l, long_value)))
    ∙ ap (λ (bytes : List ℕ). record s { value = bytes }) (words_fill s.value value (long ∙ sym v.len) (all_bytes d.value value v))
  where
    long_value : length (words_of value) ≡ beat_count d.value
    long_value = length-words_of value ∙ ap beat_count v.len

-- ---- the rows of a hash

abbrev Pairs : Type 0
Pairs = List (List ℕ × List ℕ)

unused_rows : (d : MapDecl) → d.kind ≡ Hash → (n : ℕ) → rows_over d (replicate n (0 ∷ [])) (replicate n (empty_slot d)) ≡ replicate n (empty_slot d)
unused_rows d kind zero = refl
unused_rows d kind (suc n) =
    ap (λ (y : Word). written_word (empty_slot d) y 0 ∷ rows_over d (replicate n (0 ∷ [])) (replicate n (empty_slot d))) (ap (λ m. word_as m d 0) kind)
    ∙ ap (λ (xs : List Slot). empty_slot d ∷ xs) (unused_rows d kind n)

used_rows : (d : MapDecl) → d.kind ≡ Hash → (n m : ℕ) (es : Pairs) → m ≡ length es + n → ((i : ℕ) (key value : List ℕ) → slice_get es i ≡ Some (key, value) → IsBytes d.key key × IsBytes d.value value)
    → rows_over d (map_list slot_of es ++ replicate n (0 ∷ [])) (replicate m (empty_slot d)) ≡ map_list pair_slot es ++ replicate n (empty_slot d)
used_rows d kind n m [] e h = ap (λ (k : ℕ). rows_over d (replicate n (0 ∷ [])) (replicate k (empty_slot d))) (e ∙ omega arith) ∙ unused_rows d kind n
used_rows d kind n zero (x ∷ es) e h = absurd (omega (arith, e))
used_rows d kind n (suc m) (x ∷ es) e h =
    let b = h 0 x.0 x.1 refl in
    ap (λ (s : Slot). s ∷ rows_over d (map_list slot_of es ++ replicate n (0 ∷ [])) (replicate m (empty_slot d))) (hash_row d kind x.0 x.1 b.0 b.1)
    ∙ ap (λ (xs : List Slot). pair_slot x ∷ xs) (used_rows d kind n m es (omega (arith, e)) (λ i key value g. h (suc i) key value g))

no_entries : length (map.entries {R = slice_cmp nat_cmp} (map.empty {X = List ℕ})) ≡ 0
no_entries = sym (len-entries (map.empty {X = List ℕ} {R = slice_cmp nat_cmp})) ∙ len-empty (slice_cmp nat_cmp) (List ℕ)

-- what a map holds are bytes of the declared lengths
value_bytes : (d : MapDecl) (c : Contents) → IsOver d c → (key value : List ℕ) → map.get c key ≡ Some value → IsBytes d.value value
value_bytes d c over key value e = subst (λ o. IfSome o (IsBytes d.value)) e (over.values key)

hash_rows : (d : MapDecl) (c : Contents) → d.kind ≡ Hash → IsOver d c → PairLaws d c → rows_over d (rows_as Hash d c) (loaded_as Hash d map.empty) ≡ loaded_as Hash d c
hash_rows d c kind over pairs =
    ap (λ (es : Pairs). rows_over d (rows_as Hash d c) (map_list pair_slot es ++ replicate (d.cap - length es) (empty_slot d))) (nil_from_length (map.entries {R = slice_cmp nat_cmp} (map.empty {X = List ℕ})) no_entries)
    ∙ ap (λ (n : ℕ). rows_over d (map_list slot_of es ++ replicate (d.cap - n) (0 ∷ [])) (replicate (d.cap - 0) (empty_slot d))) (len-entries c)
    ∙ used_rows d kind (d.cap - length (map.entries c)) (d.cap - 0) es (omega (arith, few, len-entries c)) bytes
  where
    es : Pairs
    es = map.entries c

    few : map.len c ≤ d.cap
    few = subst (λ k. IsFilled_as k d c) kind over.filled

    bytes : (i : ℕ) (key value : List ℕ) → slice_get (map.entries c) i ≡ Some (key, value) → IsBytes d.key key × IsBytes d.value value
    bytes i key value e =
        let found : map.get c key ≡ Some value = pairs.found i key value (ap (λ k. entry_as k c i) kind ∙ e) in
        ((over.keys key (ap is_some found)).0, value_bytes d c over key value found)

-- ---- the rows of an array

array_rows : IndexLaws → (d : MapDecl) (c o : Contents) → d.kind ≡ Array → IsWithinLimits d → IsOver d c → IsOver d o → rows_over d (rows_as Array d c) (loaded_as Array d o) ≡ loaded_as Array d c
array_rows laws d c o kind limits over before = each 0 d.cap (omega arith)
  where
    sized : (d.key ≡ 4) × (d.cap ≤ 65536)
    sized = subst (λ k. limits_as k d) kind limits.by_kind

    takes : (i : ℕ) → i < d.cap → TakesKey d (index_key i)
    takes i l = (subst (λ n. IsBytes n (index_key i)) (sym sized.0) (laws.key_bytes i), subst (λ k. TakesKey_as k d (index_key i)) (sym kind) (below i l))
      where
        below : (i : ℕ) → i < d.cap → index_of (index_key i) < d.cap
        below i l = let e = laws.index_back i (omega (arith, l, sized.1)) in omega (arith, e, l)

    has : (i : ℕ) → i < d.cap → IsTrue (is_some (map.get c (index_key i)))
    has i l = subst (λ k. IsFilled_as k d c) kind over.filled (index_key i) (takes i l)

    long : (v : Option (List ℕ)) → IfSome v (IsBytes d.value) → length (unwrap_or v (replicate d.value 0)) ≡ d.value
    long None h = length-replicate d.value 0
    long (Some v) h = h.len

    one : (i : ℕ) (v : Option (List ℕ)) → IsTrue (is_some v) → IfSome v (IsBytes d.value) → row_slot d 0 (words_of (unwrap_or v [])) (index_slot d o i) ≡ pair_slot (index_key i, unwrap_or v (replicate d.value 0))
    one i None some h = absurd (no some)
      where
        no : IsTrue false → ⊥
        no e = cc
    one i (Some v) some h = array_row d kind (index_slot d o i) v (long (map.get o (index_key i)) (before.values (index_key i))) h

    each : (a n : ℕ) → a + n ≤ d.cap
        → rows_over d (map_list (λ i. words_of (unwrap_or (map.get c (index_key i)) [])) (range_with_len a n)) (map_list (index_slot d o) (range_with_len a n)) ≡ map_list (index_slot d c) (range_with_len a n)
    each a zero l = refl
    each a (suc n) l =
        ap (λ (s : Slot). s ∷ rows_over d (map_list (λ i. words_of (unwrap_or (map.get c (index_key i)) [])) (range_with_len (a + 1) n)) (map_list (index_slot d o) (range_with_len (a + 1) n))) (one a (map.get c (index_key a)) (has a (omega (arith, l))) (over.values (index_key a)))
        ∙ ap (λ (xs : List Slot). index_slot d c a ∷ xs) (each (a + 1) n (omega (arith, l)))

-- ---- the rows of a map

rows_as_over : IndexLaws → (k : MapKind) (d : MapDecl) (c : Contents) → d.kind ≡ k → IsWithinLimits d → IsOver d c → PairLaws d c → IsOver d (opened d) → rows_over d (rows_as k d c) (loaded_as k d (opened d)) ≡ loaded_as k d c
unfolding opened
rows_as_over laws Hash d c kind limits over pairs before = ap (λ k. rows_over d (rows_as Hash d c) (loaded_as Hash d (opened_as k d))) kind ∙ hash_rows d c kind over pairs
rows_as_over laws Array d c kind limits over pairs before = array_rows laws d c (opened d) kind limits over before

-- All rows of a map, written over what it holds before anything is written, leave the map.
pub rows_fill : IndexLaws → ((d : MapDecl) (c : Contents) → KeepsOver d c) → ((d : MapDecl) (c : Contents) → PairLaws d c) → (d : MapDecl) (c : Contents) → IsWithinLimits d → IsOver d c
    → rows_over d (rows_of d c) (loaded_as d.kind d (opened d)) ≡ loaded_as d.kind d c
rows_fill laws keeps pairs d c limits over = rows_as_over laws d.kind d c refl limits over (pairs d c) ((keeps d c).opens limits)
