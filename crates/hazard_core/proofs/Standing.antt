-- The tables that a load leaves.
use Rattle.std.proofs.Common.{◌≡◌, ◌≢◌, ℕ, zero, suc, ◌+◌, ◌-◌, ◌<◌, ◌≤◌, ◌⊎◌, inl, inr, Bool, true, false, cond, List, [], ◌∷◌, ◌++◌, Option, Some, None, length, get_or, refl, sym, ap, ◌∙◌, subst, arith, IsTrue}
use Rattle.std.specs.Prelude.{replicate, map as map_list, unwrap_or, is_some}
use Rattle.std.specs.List.{range_with_len}
use Rattle.std.specs.Ordering.{nat_cmp, eq_by_cmp}
use Rattle.std.specs.Cmp.Lexicographic.{slice_cmp, nat_list_cmp_total}
use Rattle.std.specs.FinMap as map
use Rattle.std.specs.FinMap.{find, get-entries, get-insert, get-empty, same_map, slice_cmp-IsAntisymmetric, nat_cmp-IsAntisymmetric}
use Rattle.std.specs.Str.{bytes_eq}
use Rattle.std.proofs.lemmas.Bool.{cases_lt}
use Rattle.std.proofs.lemmas.Slice.Eq.{bytes_eq-Decides}
use Rattle.std.proofs.lemmas.Map.Text.{is_eq-slice_cmp}
use Rattle.xdp_maps.specs.declared.decl.MapKind.{MapKind}
use Rattle.xdp_maps.specs.declared.decl.MapKind.TheVariants.{Hash, Array}
use Rattle.xdp_maps.specs.declared.decl.MapDecl.{MapDecl}
use Rattle.xdp_maps.specs.Contents.{Contents, IsOver, IsWithinLimits, IsFilled_as, limits_as, index_key, index_of, TakesKey, TakesKey_as, IsBytes}
use Rattle.xdp_maps.specs.Laws.{IndexLaws}
use Rattle.xdp_maps.specs.State.{no_decl}
use Rattle.hazard_core.specs.Standing.{TablesStand}
use Rattle.hazard_core.specs.Tables.{empty_slot, pair_slot, index_slot, contents_of, loaded_as, loaded_tables}

empties : (d : MapDecl) (n : ℕ) → contents_of (replicate n (empty_slot d)) ≡ map.empty
empties d zero = refl
empties d (suc n) = empties d n

pairs_get : (d : MapDecl) (n : ℕ) (es : List (List ℕ × List ℕ)) (q : List ℕ) → map.get (contents_of (map_list pair_slot es ++ replicate n (empty_slot d))) q ≡ find (slice_cmp nat_cmp) q es
pairs_get d n [] q = ap (λ (c : Contents). map.get c q) (empties d n) ∙ get-empty (slice_cmp nat_cmp) q
pairs_get d n (e ∷ es) q =
    get-insert nat_list_cmp_total (contents_of (map_list pair_slot es ++ replicate n (empty_slot d))) e.0 e.1 q
    ∙ ap (λ (o : Option (List ℕ)). cond (eq_by_cmp (slice_cmp nat_cmp) q e.0) (Some e.1) o) (pairs_get d n es q)

hash_stands : (d : MapDecl) (c : Contents) → contents_of (loaded_as Hash d c) ≡ c
hash_stands d c = same_map nat_list_cmp_total (slice_cmp-IsAntisymmetric nat_cmp-IsAntisymmetric) (contents_of (loaded_as Hash d c)) c (λ q. pairs_get d (d.cap - length (map.entries c)) (map.entries c) q ∙ sym (get-entries c q))

-- what an array's table holds under a key: the value of its index, where it is one of these
abbrev Indexed : MapDecl → Contents → ℕ → ℕ → List ℕ → Type 0
Indexed d c a n q =
    ((i : ℕ) × (i < a + n) × (q ≡ index_key i) × (map.get (contents_of (map_list (index_slot d c) (range_with_len a n))) q ≡ Some (unwrap_or (map.get c q) (replicate d.value 0))))
    ⊎ ((map.get (contents_of (map_list (index_slot d c) (range_with_len a n))) q ≡ None) × ((i : ℕ) → a ≤ i → i < a + n → q ≢ index_key i))

indexed : (d : MapDecl) (c : Contents) (a n : ℕ) (q : List ℕ) → Indexed d c a n q
indexed d c a zero q = inr (get-empty (slice_cmp nat_cmp) q, λ i l m. absurd (omega arith))
indexed d c a (suc n) q = by (bytes_eq q (index_key a)) refl (indexed d c (a + 1) n q)
  where
    rest : Contents
    rest = contents_of (map_list (index_slot d c) (range_with_len (a + 1) n))

    value : List ℕ
    value = unwrap_or (map.get c (index_key a)) (replicate d.value 0)

    here : map.get (map.insert rest (index_key a) value) q ≡ cond (bytes_eq q (index_key a)) (Some value) (map.get rest q)
    here = get-insert nat_list_cmp_total rest (index_key a) value q ∙ ap (λ (b : Bool). cond b (Some value) (map.get rest q)) (is_eq-slice_cmp q (index_key a))

    false_true : false ≡ true → ⊥
    false_true e = cc

    by : (b : Bool) → bytes_eq q (index_key a) ≡ b → Indexed d c (a + 1) n q → Indexed d c a (suc n) q
    by true e more =
        let same : q ≡ index_key a = (bytes_eq-Decides q (index_key a)).0 e in
        inl (a, omega arith, same, here ∙ ap (λ (b : Bool). cond b (Some value) (map.get rest q)) e ∙ ap (λ (k : List ℕ). Some (unwrap_or (map.get c k) (replicate d.value 0))) (sym same))
    by false e (inl w) = inl (w.0, omega (arith, w.1), w.2, here ∙ ap (λ (b : Bool). cond b (Some value) (map.get rest q)) e ∙ w.3)
    by false e (inr w) = inr (here ∙ ap (λ (b : Bool). cond b (Some value) (map.get rest q)) e ∙ w.0, λ i l m. apart i l m (cases_lt a i))
      where
        apart : (i : ℕ) → a ≤ i → i < a + suc n → (a < i) ⊎ (i ≤ a) → q ≢ index_key i
        apart i l m (inl lower) s = w.1 i (omega arith) (omega arith) s
        apart i l m (inr upper) s = let e' : i ≡ a = omega arith in false_true (sym e ∙ (bytes_eq-Decides q (index_key a)).1 (s ∙ ap index_key e'))

some_is : (o : Option (List ℕ)) (d : List ℕ) → IsTrue (is_some o) → Some (unwrap_or o d) ≡ o
some_is None d h = absurd (no_some h)
  where
    no_some : IsTrue false → ⊥
    no_some h = cc
some_is (Some v) d h = refl

array_stands : IndexLaws → (d : MapDecl) (c : Contents) → d.kind ≡ Array → IsWithinLimits d → IsOver d c → contents_of (loaded_as Array d c) ≡ c
array_stands laws d c kind limits over = same_map nat_list_cmp_total (slice_cmp-IsAntisymmetric nat_cmp-IsAntisymmetric) (contents_of (loaded_as Array d c)) c (λ q. at q (indexed d c 0 d.cap q))
  where
    sized : (d.key ≡ 4) × (d.cap ≤ 65536)
    sized = subst (λ k. limits_as k d) kind limits.by_kind

    filled : IsFilled_as Array d c
    filled = subst (λ k. IsFilled_as k d c) kind over.filled

    takes : (i : ℕ) → i < d.cap → TakesKey d (index_key i)
    takes i l = (subst (λ n. IsBytes n (index_key i)) (sym sized.0) (laws.key_bytes i), subst (λ k. TakesKey_as k d (index_key i)) (sym kind) (below i l))
      where
        below : (i : ℕ) → i < d.cap → index_of (index_key i) < d.cap
        below i l = let e = laws.index_back i (omega (arith, l, sized.1)) in omega (arith, e, l)

    at : (q : List ℕ) → Indexed d c 0 d.cap q → map.get (contents_of (loaded_as Array d c)) q ≡ map.get c q
    at q (inl w) = w.3 ∙ some_is (map.get c q) (replicate d.value 0) (subst (λ k. IsTrue (map.contains_key c k)) (sym w.2) (filled (index_key w.0) (takes w.0 (omega (arith, w.1)))))
    at q (inr w) = w.0 ∙ sym (none (map.get c q) refl)
      where
        none : (o : Option (List ℕ)) → map.get c q ≡ o → o ≡ None
        none None e = refl
        none (Some v) e =
            let has : IsTrue (map.contains_key c q) = ap is_some e in
            let t = over.keys q has in
            let low : index_of q < d.cap = subst (λ k. TakesKey_as k d q) kind t.1 in
            let back : index_key (index_of q) ≡ q = laws.key_back q (subst (λ n. IsBytes n q) sized.0 t.0) in
            absurd (w.1 (index_of q) (omega arith) (omega (arith, low)) (sym back))

stands_as : IndexLaws → (k : MapKind) (d : MapDecl) (c : Contents) → d.kind ≡ k → IsWithinLimits d → IsOver d c → contents_of (loaded_as k d c) ≡ c
stands_as laws Hash d c kind limits over = hash_stands d c
stands_as laws Array d c kind limits over = array_stands laws d c kind limits over

all_stand : IndexLaws → (ds : List MapDecl) (cs : List Contents) → length cs ≡ length ds → ((m : ℕ) → m < length ds → IsWithinLimits (get_or ds m no_decl)) → ((m : ℕ) → m < length ds → IsOver (get_or ds m no_decl) (get_or cs m map.empty)) →
    map_list contents_of (loaded_tables ds cs) ≡ cs
all_stand laws [] [] n limits over = refl
all_stand laws [] (c ∷ cs) n limits over = absurd (omega arith)
all_stand laws (d ∷ ds) [] n limits over = absurd (omega arith)
all_stand laws (d ∷ ds) (c ∷ cs) n limits over =
    ap (λ (x : Contents). x ∷ map_list contents_of (loaded_tables ds cs)) (stands_as laws d.kind d c refl (limits 0 (omega arith)) (over 0 (omega arith)))
    ∙ ap (λ (xs : List Contents). c ∷ xs) (all_stand laws ds cs (omega arith) (λ m l. limits (suc m) (omega arith)) (λ m l. over (suc m) (omega arith)))

pub tables_stand : IndexLaws → TablesStand
tables_stand laws maps sound = ap (λ (cs : List Contents). record { decls = maps.decls; contents = cs }) (all_stand laws maps.decls maps.contents sound.beside sound.limits sound.over)
