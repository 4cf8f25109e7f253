-- The words that are read of slots, as what the map holds.
use Rattle.std.proofs.Common.{◌≡◌, ℕ, zero, suc, ◌+◌, ◌<◌, ◌≤◌, Bool, true, false, cond, Some, List, [], ◌∷◌, ◌++◌, length, drop, refl, sym, ◌∙◌, ap, subst, arith}
use Rattle.std.specs.Prelude.{if◌then◌else◌, ◌&&◌, map as map_list}
use Rattle.std.specs.List.{flat_map, range_with_len}
use Rattle.std.specs.Cmp.Lexicographic.{nat_list_cmp_total}
use Rattle.std.specs.FinMap as map
use Rattle.std.specs.FinMap.{get-insert}
use Rattle.std.specs.Str.{bytes_eq}
use Rattle.std.proofs.lemmas.List.{take_at, drop_at, length-map}
use Rattle.std.proofs.lemmas.List.FromFn.{length-range_with_len}
use Rattle.std.proofs.lemmas.Slice.Eq.{bytes_eq-Decides}
use Rattle.std.proofs.lemmas.Map.Text.{is_eq-slice_cmp}
use Rattle.realization.specs.beat_core.Beats.{beat_count}
use Rattle.hazard_core.specs.xdp_maps.declared.decl.MapKind.{MapKind}
use Rattle.hazard_core.specs.xdp_maps.declared.decl.MapKind.TheVariants.{Hash, Array}
use Rattle.hazard_core.specs.xdp_maps.declared.decl.MapDecl.{MapDecl}
use Rattle.hazard_core.specs.xdp_maps.Contents.{Contents, IsBytes, index_key, indexed}
use Rattle.hazard_core.specs.cell_core.Cells.{bit}
use Rattle.hazard_core.specs.declared.slot.Slot.{Slot}
use Rattle.hazard_core.specs.Tables.{slot_at, has_key, contents_of}
use Rattle.hazard_core.specs.Commits.{word_as, word_at, shown_word}
use Rattle.realization.specs.HostHistory.Rows.{row_length, row_length_as, bytes_of, entry_of, contents_as}
use Rattle.pipe_core.proofs.HostRuns.Words.{words_back}
use Rattle.pipe_core.proofs.HostRuns.Filling.{hash_key, hash_value, array_value, all_bytes}

-- ---- lists by numbers

pub same_map : {A : Type 0} (f g : ℕ → A) (a n : ℕ) → ((i : ℕ) → a ≤ i → i < a + n → f i ≡ g i) → map_list f (range_with_len a n) ≡ map_list g (range_with_len a n)
same_map f g a zero h = refl
same_map f g a (suc n) h =
    ap (λ x. x ∷ map_list f (range_with_len (a + 1) n)) (h a (omega arith) (omega arith))
    ∙ ap (λ xs. g a ∷ xs) (same_map f g (a + 1) n (λ i l m. h i (omega (arith, l)) (omega (arith, m))))

-- counted from another number on
pub shifted : {A : Type 0} (f g : ℕ → A) (a b n : ℕ) → ((i : ℕ) → i < n → f (a + i) ≡ g (b + i)) → map_list f (range_with_len a n) ≡ map_list g (range_with_len b n)
shifted f g a b zero h = refl
shifted f g a b (suc n) h =
    ap (λ x. x ∷ map_list f (range_with_len (a + 1) n)) (ap f (omega arith) ∙ h 0 (omega arith) ∙ ap g (omega arith))
    ∙ ap (λ xs. g b ∷ xs) (shifted f g (a + 1) (b + 1) n (λ i l. ap f (omega arith) ∙ h (suc i) (omega (arith, l)) ∙ ap g (omega arith)))

range_append : {A : Type 0} (f : ℕ → A) (a n m : ℕ) → map_list f (range_with_len a (n + m)) ≡ map_list f (range_with_len a n) ++ map_list f (range_with_len (a + n) m)
range_append f a zero m = ap (λ (k : ℕ). map_list f (range_with_len a k)) (omega arith) ∙ ap (λ (k : ℕ). map_list f (range_with_len k m)) (omega arith)
range_append f a (suc n) m =
    ap (λ (k : ℕ). map_list f (range_with_len a k)) more
    ∙ ap (λ xs. f a ∷ xs) (range_append f (a + 1) n m ∙ ap (λ (k : ℕ). map_list f (range_with_len (a + 1) n) ++ map_list f (range_with_len k m)) (omega arith))
  where
    more : suc n + m ≡ suc (n + m)
    more = omega arith

-- ---- the words of a slot

abbrev pub shown_row : MapDecl → Slot → List ℕ
shown_row d s = map_list (λ w. shown_word s (word_as d.kind d w)) (range_with_len 0 (row_length d))

-- of a used slot of a hash: that it is used, its key and its value
hash_words : (d : MapDecl) → d.kind ≡ Hash → (s : Slot)
    → shown_row d s ≡ bit s.used ∷ (map_list (word_at s.key) (range_with_len 0 (beat_count d.key)) ++ map_list (word_at s.value) (range_with_len 0 (beat_count d.value)))
hash_words d kind s =
    ap (λ (k : MapKind). map_list (λ w. shown_word s (word_as k d w)) (range_with_len 0 (row_length_as k d))) kind
    ∙ ap (λ (n : ℕ). map_list f (range_with_len 0 n)) count
    ∙ ap (λ (xs : List ℕ). bit s.used ∷ xs) (range_append f (0 + 1) (beat_count d.key) (beat_count d.value))
    ∙ ap (λ (xs : List ℕ). bit s.used ∷ (xs ++ map_list f (range_with_len (0 + 1 + beat_count d.key) (beat_count d.value)))) (shifted f (word_at s.key) (0 + 1) 0 (beat_count d.key) (λ i l. ap (shown_word s) (hash_key d i l) ∙ ap (word_at s.key) (omega arith)))
    ∙ ap (λ (xs : List ℕ). bit s.used ∷ (map_list (word_at s.key) (range_with_len 0 (beat_count d.key)) ++ xs)) (shifted f (word_at s.value) (0 + 1 + beat_count d.key) 0 (beat_count d.value) (λ i l. ap (shown_word s) (hash_value d i l) ∙ ap (word_at s.value) (omega arith)))
  where
    f : ℕ → ℕ
    f w = shown_word s (word_as Hash d w)

    count : 1 + beat_count d.key + beat_count d.value ≡ suc (beat_count d.key + beat_count d.value)
    count = omega arith

-- the pair of a used slot
abbrev pair_of : Slot → List (List ℕ × List ℕ)
pair_of s = if s.used then (s.key, s.value) ∷ [] else []

entry_is : (d : MapDecl) → d.kind ≡ Hash → (s : Slot) (used : Bool) → s.used ≡ used → (s.used ≡ true → IsBytes d.key s.key × IsBytes d.value s.value) → entry_of d (shown_row d s) ≡ pair_of s
entry_is d kind s false e h = ap (entry_of d) (hash_words d kind s) ∙ ap (λ (u : Bool). entry_of d (bit u ∷ words)) e ∙ ap (λ (u : Bool). if u then (s.key, s.value) ∷ [] else []) (sym e)
  where
    words : List ℕ
    words = map_list (word_at s.key) (range_with_len 0 (beat_count d.key)) ++ map_list (word_at s.value) (range_with_len 0 (beat_count d.value))
entry_is d kind s true e h =
    ap (entry_of d) (hash_words d kind s)
    ∙ ap (λ (u : Bool). entry_of d (bit u ∷ (keys ++ values))) e
    ∙ ap (λ (xs : List ℕ). (bytes_of d.key xs, bytes_of d.value (drop (beat_count d.key) (keys ++ values))) ∷ []) (take_at keys values (beat_count d.key) long)
    ∙ ap (λ (xs : List ℕ). (bytes_of d.key keys, bytes_of d.value xs) ∷ []) (drop_at keys values (beat_count d.key) long)
    ∙ ap (λ (k : List ℕ). (k, bytes_of d.value values) ∷ []) (words_back d.key s.key (h e).0.len (all_bytes d.key s.key (h e).0))
    ∙ ap (λ (v : List ℕ). (s.key, v) ∷ []) (words_back d.value s.value (h e).1.len (all_bytes d.value s.value (h e).1))
    ∙ ap (λ (u : Bool). if u then (s.key, s.value) ∷ [] else []) (sym e)
  where
    keys : List ℕ
    keys = map_list (word_at s.key) (range_with_len 0 (beat_count d.key))

    values : List ℕ
    values = map_list (word_at s.value) (range_with_len 0 (beat_count d.value))

    long : length (map_list (word_at s.key) (range_with_len 0 (beat_count d.key))) ≡ beat_count d.key
    long = length-map (range_with_len 0 (beat_count d.key)) (word_at s.key) ∙ length-range_with_len 0 (beat_count d.key)

-- ---- the words of a map

abbrev pub HoldBytes : MapDecl → List Slot → Type 0
HoldBytes d slots = (n : ℕ) → n < length slots → (slot_at slots n).used ≡ true → IsBytes d.key (slot_at slots n).key × IsBytes d.value (slot_at slots n).value

pub hash_back : (d : MapDecl) → d.kind ≡ Hash → (slots : List Slot) → HoldBytes d slots → contents_as Hash d (map_list (shown_row d) slots) ≡ contents_of slots
hash_back d kind [] h = refl
hash_back d kind (s ∷ slots) h =
    ap (λ (es : List (List ℕ × List ℕ)). from (es ++ flat_map (entry_of d) (map_list (shown_row d) slots))) (entry_is d kind s s.used refl (h 0 (omega arith)))
    ∙ by s.used
    ∙ ap (λ (c : Contents). if s.used then map.insert c s.key s.value else c) (hash_back d kind slots (λ n l. h (suc n) (omega (arith, l))))
  where
    from : List (List ℕ × List ℕ) → Contents
    from es = map.from_entries es

    by : (u : Bool) → from ((if u then (s.key, s.value) ∷ [] else []) ++ flat_map (entry_of d) (map_list (shown_row d) slots)) ≡ (if u then map.insert (from (flat_map (entry_of d) (map_list (shown_row d) slots))) s.key s.value else from (flat_map (entry_of d) (map_list (shown_row d) slots)))
    by true = refl
    by false = refl

-- a slot of an array, at its index
pub record IsIndexed (d : MapDecl) (i : ℕ) (s : Slot) : Type 0 where
  pub used : s.used ≡ true
  pub key : s.key ≡ index_key i
  pub value : IsBytes d.value s.value

array_words : (d : MapDecl) → d.kind ≡ Array → (s : Slot) → IsBytes d.value s.value → bytes_of d.value (shown_row d s) ≡ s.value
array_words d kind s v =
    ap (λ (k : MapKind). bytes_of d.value (map_list (λ w. shown_word s (word_as k d w)) (range_with_len 0 (row_length_as k d)))) kind
    ∙ ap (bytes_of d.value) (shifted (λ w. shown_word s (word_as Array d w)) (word_at s.value) 0 0 (beat_count d.value) (λ i l. ap (shown_word s) (array_value d i l) ∙ ap (word_at s.value) (omega arith)))
    ∙ words_back d.value s.value v.len (all_bytes d.value s.value v)

pub array_back : (d : MapDecl) → d.kind ≡ Array → (a : ℕ) (slots : List Slot) → ((n : ℕ) → n < length slots → IsIndexed d (a + n) (slot_at slots n)) → map.from_entries (indexed a (map_list (bytes_of d.value) (map_list (shown_row d) slots))) ≡ contents_of slots
array_back d kind a [] h = refl
array_back d kind a (s ∷ slots) h =
    ap (λ (v : List ℕ). map.insert rest (index_key a) v) (array_words d kind s at.value)
    ∙ ap (λ (k : List ℕ). map.insert rest k s.value) (ap index_key (omega arith) ∙ sym at.key)
    ∙ ap (λ (c : Contents). map.insert c s.key s.value) (array_back d kind (a + 1) slots (λ n l. subst (λ i. IsIndexed d i (slot_at slots n)) (omega arith) (h (suc n) (omega (arith, l)))))
    ∙ ap (λ (u : Bool). if u then map.insert (contents_of slots) s.key s.value else contents_of slots) (sym at.used)
  where
    at : IsIndexed d (a + 0) s
    at = h 0 (omega arith)

    rest : Contents
    rest = map.from_entries (indexed (a + 1) (map_list (bytes_of d.value) (map_list (shown_row d) slots)))

-- ---- the value under the key of a slot

pub first_found : (slots : List Slot) (key : List ℕ) (n : ℕ) → n < length slots → has_key key (slot_at slots n) ≡ true → ((k : ℕ) → k < n → has_key key (slot_at slots k) ≡ false) → map.get (contents_of slots) key ≡ Some (slot_at slots n).value
first_found [] key n l e h = absurd (omega (arith, l))
first_found (s ∷ slots) key zero l e h = here s.used (bytes_eq s.key key) refl refl e
  where
    here : (u c : Bool) → s.used ≡ u → bytes_eq s.key key ≡ c → u && c ≡ true → map.get (if s.used then map.insert (contents_of slots) s.key s.value else contents_of slots) key ≡ Some s.value
    here false c ue ce e = cc
    here true false ue ce e = cc
    here true true ue ce e =
        let same : bytes_eq key s.key ≡ true = (bytes_eq-Decides key s.key).1 (sym ((bytes_eq-Decides s.key key).0 ce)) in
        ap (λ (u : Bool). map.get (if u then map.insert (contents_of slots) s.key s.value else contents_of slots) key) ue
        ∙ get-insert nat_list_cmp_total (contents_of slots) s.key s.value key
        ∙ ap (λ (c : Bool). cond c (Some s.value) (map.get (contents_of slots) key)) (is_eq-slice_cmp key s.key ∙ same)
first_found (s ∷ slots) key (suc n) l e h =
    past s.used (bytes_eq s.key key) refl refl (h 0 (omega arith))
    ∙ first_found slots key n (omega (arith, l)) e (λ k m. h (suc k) (omega (arith, m)))
  where
    past : (u c : Bool) → s.used ≡ u → bytes_eq s.key key ≡ c → u && c ≡ false → map.get (if s.used then map.insert (contents_of slots) s.key s.value else contents_of slots) key ≡ map.get (contents_of slots) key
    past false c ue ce e = ap (λ (u : Bool). map.get (if u then map.insert (contents_of slots) s.key s.value else contents_of slots) key) ue
    past true true ue ce e = cc
    past true false ue ce e =
        ap (λ (u : Bool). map.get (if u then map.insert (contents_of slots) s.key s.value else contents_of slots) key) ue
        ∙ get-insert nat_list_cmp_total (contents_of slots) s.key s.value key
        ∙ ap (λ (c : Bool). cond c (Some s.value) (map.get (contents_of slots) key)) (is_eq-slice_cmp key s.key ∙ other (bytes_eq key s.key) refl)
      where
        other : (c : Bool) → bytes_eq key s.key ≡ c → c ≡ false
        other false f = refl
        other true f = absurd (no (sym ce ∙ (bytes_eq-Decides s.key key).1 (sym ((bytes_eq-Decides key s.key).0 f))))
          where
            no : false ≡ true → ⊥
            no g = cc
