-- The tables that a load leaves are tables of their declarations.
use Rattle.std.proofs.Common.{◌≡◌, ℕ, zero, suc, ◌+◌, ◌-◌, ◌<◌, ◌≤◌, Bool, true, false, cond, List, [], ◌∷◌, ◌++◌, Some, length, get_or, refl, sym, ap, ◌∙◌, subst, arith, IsTrue, T, length-append}
use Rattle.std.specs.Prelude.{◌&&◌, replicate, map as map_list, is_some}
use Rattle.std.specs.List.{range_with_len}
use Rattle.std.specs.declared.cmp.Ordering.{Ordering}
use Rattle.std.specs.declared.cmp.Ordering.TheVariants.{Less, Equal, Greater}
use Rattle.std.specs.Ordering.{nat_cmp, eq_by_cmp, is_lt}
use Rattle.std.specs.Cmp.{tied_itself}
use Rattle.std.specs.Cmp.Lexicographic.{slice_cmp, nat_list_cmp_total}
use Rattle.std.specs.FinMap as map
use Rattle.std.specs.FinMap.{find, get-entries, entries_sorted, len-entries}
use Rattle.std.specs.FinMap.Entries.{below_all, is_sorted}
use Rattle.std.specs.Str.{bytes_eq}
use Rattle.std.proofs.lemmas.Bool.{and_parts}
use Rattle.std.proofs.lemmas.List.{length-map, length-replicate}
use Rattle.std.proofs.lemmas.List.FromFn.{get_or-map-range_with_len}
use Rattle.std.proofs.lemmas.Slice.Eq.{bytes_eq-Decides}
use Rattle.std.proofs.lemmas.Map.Text.{is_eq-slice_cmp}
use Rattle.xdp_maps.specs.declared.decl.MapKind.{MapKind}
use Rattle.xdp_maps.specs.declared.decl.MapKind.TheVariants.{Hash, Array}
use Rattle.xdp_maps.specs.declared.decl.MapDecl.{MapDecl}
use Rattle.xdp_maps.specs.Contents.{Contents, IsOver, IsWithinLimits, IsFilled_as, limits_as, index_key, index_of, IsBytes}
use Rattle.xdp_maps.specs.Laws.{IndexLaws}
use Rattle.xdp_maps.specs.State.{no_decl}
use Rattle.hazard_core.specs.Tables.{Slot, no_slot, slot_at, has_key, empty_slot, pair_slot, index_slot, loaded_as, loaded_tables}
use Rattle.hazard_core.specs.Tabled.{IsFilledTable, IsTable, LoadsTables}

truth : (b : Bool) → T b → IsTrue b
truth true h = refl
truth false h = absurd h

-- ---- a hash

abbrev Pairs : Type 0
Pairs = List (List ℕ × List ℕ)

unused_at : (d : MapDecl) (n i : ℕ) → (slot_at (replicate n (empty_slot d)) i).used ≡ false
unused_at d zero i = refl
unused_at d (suc n) zero = refl
unused_at d (suc n) (suc i) = unused_at d n i

abbrev hash_slots : MapDecl → ℕ → Pairs → List Slot
hash_slots d n es = map_list pair_slot es ++ replicate n (empty_slot d)

record InPairs (es : Pairs) (key : List ℕ) (i : ℕ) : Type 0 where
  below : i < length es
  key_is : (get_or es i ([], [])).0 ≡ key

used_pair : (d : MapDecl) (n : ℕ) (es : Pairs) (i : ℕ) → (slot_at (hash_slots d n es) i).used ≡ true → InPairs es (slot_at (hash_slots d n es) i).key i
used_pair d n [] i u = absurd (no (sym (unused_at d n i) ∙ u))
  where
    no : false ≡ true → ⊥
    no e = cc
used_pair d n (e ∷ es) zero u = record { below = omega arith; key_is = refl }
used_pair d n (e ∷ es) (suc i) u = let q = used_pair d n es i u in record { below = omega (arith, q.below); key_is = q.key_is }

has_pair : (d : MapDecl) (n : ℕ) (es : Pairs) (key : List ℕ) (i : ℕ) → has_key key (slot_at (hash_slots d n es) i) ≡ true → InPairs es key i
has_pair d n es key i e =
    let s = slot_at (hash_slots d n es) i in
    let q = and_parts s.used (bytes_eq s.key key) e in
    let p = used_pair d n es i q.0 in
    record { below = p.below; key_is = p.key_is ∙ (bytes_eq-Decides s.key key).0 q.1 }

true_parts : (a b : Bool) → IsTrue (a && b) → IsTrue a × IsTrue b
true_parts true b h = (refl, h)
true_parts false b h = cc

not_below : (r : Ordering) → r ≡ Equal → IsTrue (is_lt r) → ⊥
not_below Less e h = cc
not_below Equal e h = cc
not_below Greater e h = cc

below_other : (key : List ℕ) (es : Pairs) → IsTrue (below_all (slice_cmp nat_cmp) key es) → (i : ℕ) → InPairs es key i → ⊥
below_other key [] h i p = let l = p.below in absurd (omega (arith, l))
below_other key (e ∷ es) h zero p =
    let q = (true_parts (is_lt (slice_cmp nat_cmp key e.0)) (below_all (slice_cmp nat_cmp) key es) h).0 in
    not_below (slice_cmp nat_cmp key e.0) (ap (slice_cmp nat_cmp key) p.key_is ∙ tied_itself nat_list_cmp_total key) q
below_other key (e ∷ es) h (suc i) p =
    below_other key es (true_parts (is_lt (slice_cmp nat_cmp key e.0)) (below_all (slice_cmp nat_cmp) key es) h).1 i (let l = p.below in record { below = omega (arith, l); key_is = p.key_is })

apart : (es : Pairs) → IsTrue (is_sorted (slice_cmp nat_cmp) es) → (key : List ℕ) (i j : ℕ) → InPairs es key i → InPairs es key j → i ≡ j
apart [] h key i j p q = let l = p.below in absurd (omega (arith, l))
apart (e ∷ es) h key zero zero p q = refl
apart (e ∷ es) h key zero (suc j) p q =
    let s = (true_parts (below_all (slice_cmp nat_cmp) e.0 es) (is_sorted (slice_cmp nat_cmp) es) h).0 in
    absurd (below_other e.0 es s j (let l = q.below in record { below = omega (arith, l); key_is = q.key_is ∙ sym p.key_is }))
apart (e ∷ es) h key (suc i) zero p q =
    let s = (true_parts (below_all (slice_cmp nat_cmp) e.0 es) (is_sorted (slice_cmp nat_cmp) es) h).0 in
    absurd (below_other e.0 es s i (let l = p.below in record { below = omega (arith, l); key_is = p.key_is ∙ sym q.key_is }))
apart (e ∷ es) h key (suc i) (suc j) p q =
    let s = (true_parts (below_all (slice_cmp nat_cmp) e.0 es) (is_sorted (slice_cmp nat_cmp) es) h).1 in
    ap suc (apart es s key i j (let l = p.below in record { below = omega (arith, l); key_is = p.key_is }) (let l = q.below in record { below = omega (arith, l); key_is = q.key_is }))

found_pair : (es : Pairs) (key : List ℕ) (i : ℕ) → InPairs es key i → IsTrue (is_some (find (slice_cmp nat_cmp) key es))
found_pair [] key i p = let l = p.below in absurd (omega (arith, l))
found_pair (e ∷ es) key zero p =
    let q : eq_by_cmp (slice_cmp nat_cmp) key e.0 ≡ true = is_eq-slice_cmp key e.0 ∙ (bytes_eq-Decides key e.0).1 (sym p.key_is) in
    ap (λ (c : Bool). is_some (cond c (Some e.1) (find (slice_cmp nat_cmp) key es))) q
found_pair (e ∷ es) key (suc i) p =
    by (eq_by_cmp (slice_cmp nat_cmp) key e.0) (found_pair es key i (let l = p.below in record { below = omega (arith, l); key_is = p.key_is }))
  where
    by : (c : Bool) → IsTrue (is_some (find (slice_cmp nat_cmp) key es)) → IsTrue (is_some (cond c (Some e.1) (find (slice_cmp nat_cmp) key es)))
    by true h = refl
    by false h = h

hash_table : (d : MapDecl) (c : Contents) → d.kind ≡ Hash → IsOver d c → IsTable d (loaded_as Hash d c)
hash_table d c kind over = record {
  count = length-append (map_list pair_slot es) (replicate n (empty_slot d)) ∙ omega (arith, length-map es pair_slot, length-replicate n (empty_slot d), few, len-entries c);
  keys = λ i l u.
      let p = used_pair d n es i u in
      let k = (slot_at (hash_slots d n es) i).key in
      (over.keys k (subst IsTrue (ap is_some (sym (get-entries c k))) (found_pair es k i p))).0;
  single = λ key i j l m e f. apart es (truth (is_sorted (slice_cmp nat_cmp) es) (entries_sorted c)) key i j (has_pair d n es key i e) (has_pair d n es key j f);
  filled = subst (λ k. IsFilledTable k (hash_slots d n es)) (sym kind) tt;
}
  where
    es : Pairs
    es = map.entries c

    n : ℕ
    n = d.cap - length (map.entries c)

    few : map.len c ≤ d.cap
    few = subst (λ k. IsFilled_as k d c) kind over.filled

-- ---- an array

array_table : IndexLaws → (d : MapDecl) (c : Contents) → d.kind ≡ Array → IsWithinLimits d → IsTable d (loaded_as Array d c)
array_table laws d c kind limits = record {
  count = length-map (range_with_len 0 d.cap) (index_slot d c) ∙ length-range 0 d.cap;
  keys = λ i l u. subst (IsBytes d.key) (sym (ap (λ (s : Slot). s.key) (at i (below i l)))) (subst (λ n. IsBytes n (index_key i)) (sym sized.0) (laws.key_bytes i));
  single = λ key i j l m e f. index_same i j (below i l) (below j m) (key_here key i (below i l) e ∙ sym (key_here key j (below j m) f));
  filled = subst (λ k. IsFilledTable k (loaded_as Array d c)) (sym kind) (λ i l. ap (has_key (index_key i)) (at i (below i l)) ∙ (bytes_eq-Decides (index_key i) (index_key i)).1 refl);
}
  where
    sized : (d.key ≡ 4) × (d.cap ≤ 65536)
    sized = subst (λ k. limits_as k d) kind limits.by_kind

    length-range : (a n : ℕ) → length (range_with_len a n) ≡ n
    length-range a zero = refl
    length-range a (suc n) = ap suc (length-range (a + 1) n)

    below : (i : ℕ) → i < length (loaded_as Array d c) → i < d.cap
    below i l = omega (arith, l, length-map (range_with_len 0 d.cap) (index_slot d c), length-range 0 d.cap)

    at : (i : ℕ) → i < d.cap → slot_at (loaded_as Array d c) i ≡ index_slot d c i
    at i l = get_or-map-range_with_len (index_slot d c) 0 d.cap i i no_slot l (omega arith)

    key_here : (key : List ℕ) (i : ℕ) → i < d.cap → has_key key (slot_at (loaded_as Array d c) i) ≡ true → index_key i ≡ key
    key_here key i l e = (bytes_eq-Decides (index_key i) key).0 (sym (ap (has_key key) (at i l)) ∙ e)

    index_same : (i j : ℕ) → i < d.cap → j < d.cap → index_key i ≡ index_key j → i ≡ j
    index_same i j l m e =
        let s = sized.1 in
        sym (laws.index_back i (omega (arith, l, s))) ∙ ap index_of e ∙ laws.index_back j (omega (arith, m, s))

-- ---- all maps

table_as : IndexLaws → (k : MapKind) (d : MapDecl) (c : Contents) → d.kind ≡ k → IsWithinLimits d → IsOver d c → IsTable d (loaded_as k d c)
table_as laws Hash d c kind limits over = hash_table d c kind over
table_as laws Array d c kind limits over = array_table laws d c kind limits

loaded_count : (ds : List MapDecl) (cs : List Contents) → length cs ≡ length ds → length (loaded_tables ds cs) ≡ length ds
loaded_count [] cs n = refl
loaded_count (d ∷ ds) [] n = absurd (omega (arith, n))
loaded_count (d ∷ ds) (c ∷ cs) n = ap suc (loaded_count ds cs (omega (arith, n)))

loaded_each : IndexLaws → (ds : List MapDecl) (cs : List Contents) → length cs ≡ length ds → ((m : ℕ) → m < length ds → IsWithinLimits (get_or ds m no_decl)) → ((m : ℕ) → m < length ds → IsOver (get_or ds m no_decl) (get_or cs m map.empty)) →
    (m : ℕ) → m < length ds → IsTable (get_or ds m no_decl) (get_or (loaded_tables ds cs) m [])
loaded_each laws [] cs n limits over m l = absurd (omega (arith, l))
loaded_each laws (d ∷ ds) [] n limits over m l = absurd (omega (arith, n))
loaded_each laws (d ∷ ds) (c ∷ cs) n limits over zero l = table_as laws d.kind d c refl (limits 0 (omega arith)) (over 0 (omega arith))
loaded_each laws (d ∷ ds) (c ∷ cs) n limits over (suc m) l =
    loaded_each laws ds cs (omega (arith, n)) (λ k b. limits (suc k) (omega (arith, b))) (λ k b. over (suc k) (omega (arith, b))) m (omega (arith, l))

pub loads_tables : IndexLaws → LoadsTables
loads_tables laws maps sound = record {
  beside = loaded_count maps.decls maps.contents sound.beside;
  limits = sound.limits;
  each = loaded_each laws maps.decls maps.contents sound.beside sound.limits sound.over;
}
