-- The tables of maps before anything is written.
use Rattle.std.specs.Prelude.{cond, replicate, unwrap_or, map as map_list, Some}
use Rattle.std.specs.declared.cmp.Ordering.{Ordering}
use Rattle.std.specs.Ordering.{nat_cmp, eq_by_cmp}
use Rattle.std.specs.Cmp.Lexicographic.{slice_cmp}
use Rattle.std.specs.FinMap as map
use Rattle.std.specs.FinMap.{find, get-from_entries, len-empty, len-entries}
use Rattle.std.proofs.Common.{◌≡◌, ℕ, zero, suc, ◌+◌, ◌-◌, ◌<◌, Bool, true, false, List, [], ◌∷◌, ◌++◌, length, refl, sym, ◌∙◌, ap, arith}
use Rattle.std.proofs.lemmas.Cmp.{nat_list_cmp_total}
use Rattle.std.proofs.lemmas.List.FromFn.{get_or-map-range_with_len, length-map-range_with_len}
use Rattle.hazard_core.specs.xdp_maps.declared.decl.MapDecl.{MapDecl}
use Rattle.hazard_core.specs.xdp_maps.declared.decl.MapKind.{MapKind}
use Rattle.hazard_core.specs.xdp_maps.declared.decl.MapKind.TheVariants.{Hash, Array}
use Rattle.hazard_core.specs.xdp_maps.Contents.{Contents, index_key, indexed, opened, opened_as}
use Rattle.hazard_core.specs.xdp_maps.State.{opened_state}
use Rattle.hazard_core.specs.declared.slot.Slot.{Slot}
use Rattle.hazard_core.specs.Tables.{decl_of, table_at, slot_at, no_slot, empty_slot, pair_slot, index_slot, loaded_as, tables_of}
use Rattle.read_net.specs.array_net.Array.{IsZeroed}
use Rattle.commit_net.specs.MapBlock.Stored.{IsFirst_as, IsFirst}
use Rattle.pipe_net.specs.PipeMaps.Tables.{OpenedAreFirst}

-- a value among indexed ones that are all the same, or none of them
same_value : (order : List ℕ → List ℕ → Ordering) (x : List ℕ) (n j : ℕ) (q : List ℕ) → unwrap_or (find order q (indexed j (replicate n x))) x ≡ x
same_value order x zero j q = refl
same_value order x (suc n) j q = by (eq_by_cmp order q (index_key j)) (same_value order x n (j + 1) q)
  where
    by : (c : Bool) → unwrap_or (find order q (indexed (j + 1) (replicate n x))) x ≡ x → unwrap_or (cond c (Some x) (find order q (indexed (j + 1) (replicate n x)))) x ≡ x
    by true rest = refl
    by false rest = rest

no_pairs : (es : List (List ℕ × List ℕ)) → length es ≡ 0 → es ≡ []
no_pairs [] e = refl
no_pairs (x ∷ es) e = absurd (omega (arith, e))

hash_first : (d : MapDecl) → loaded_as Hash d (opened_as Hash d) ≡ replicate d.cap (empty_slot d)
hash_first d =
    let es : List (List ℕ × List ℕ) = map.entries (opened_as Hash d) in
    let none : es ≡ [] = no_pairs es (sym (len-entries (opened_as Hash d)) ∙ len-empty (slice_cmp nat_cmp) (List ℕ)) in
    let all : d.cap - 0 ≡ d.cap = omega arith in
    ap (λ (xs : List (List ℕ × List ℕ)). map_list pair_slot xs ++ replicate (d.cap - length xs) (empty_slot d)) none ∙ ap (λ n. replicate n (empty_slot d)) all

array_first : (d : MapDecl) → IsZeroed d (loaded_as Array d (opened_as Array d))
array_first d =
    let contents : Contents = opened_as Array d in
    let zeros : List ℕ = replicate d.value 0 in
    let at : (n : ℕ) → n < d.cap → slot_at (loaded_as Array d contents) n ≡ index_slot d contents n = λ n lt. get_or-map-range_with_len (index_slot d contents) 0 d.cap n n no_slot lt (omega arith) in
    record {
      count = length-map-range_with_len (index_slot d contents) 0 d.cap;
      used = λ n lt. ap (λ (s : Slot). s.used) (at n lt);
      values = λ n lt.
          ap (λ (s : Slot). s.value) (at n lt) ∙ ap (λ o. unwrap_or o zeros) (get-from_entries nat_list_cmp_total (indexed 0 (replicate d.cap zeros)) (index_key n)) ∙ same_value (slice_cmp nat_cmp) zeros d.cap 0 (index_key n);
    }

first_as : (k : MapKind) (d : MapDecl) → IsFirst_as k d (loaded_as k d (opened_as k d))
first_as Hash d = hash_first d
first_as Array d = array_first d

first_of : (d : MapDecl) → IsFirst d (loaded_as d.kind d (opened d))
unfolding opened
first_of d = first_as d.kind d

each_first : (decls : List MapDecl) (m : ℕ) → m < length decls → IsFirst (decl_of decls m) (table_at (tables_of (opened_state decls)) m)
each_first [] m lt = absurd (omega (arith, lt))
each_first (d ∷ ds) zero lt = first_of d
each_first (d ∷ ds) (suc m) lt = each_first ds m (omega (arith, lt))

pub opened_are_first : OpenedAreFirst
opened_are_first decls m lt = each_first decls m lt
