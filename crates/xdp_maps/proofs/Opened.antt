-- What a map holds at the start.
use Rattle.std.proofs.Common.{◌≡◌, ℕ, zero, suc, ◌+◌, ◌<◌, ◌≤◌, ◌^◌, true, false, cond, List, [], ◌∷◌, length, replicate, get_or, All, Some, None, IsTrue, IfSome, is_some, refl, sym, ap, subst, ◌∙◌, arith}
use Rattle.std.specs.declared.cmp.Ordering.{Ordering}
use Rattle.std.specs.Ordering.{nat_cmp, eq_by_cmp}
use Rattle.std.specs.Cmp.Lexicographic.{slice_cmp}
use Rattle.std.specs.FinMap as map
use Rattle.std.specs.FinMap.{IsAntisymmetric, find, get-from_entries, get-empty, len-empty}
use Rattle.std.proofs.lemmas.List.Elements.{All-replicate, All-head, All-tail}
use Rattle.std.proofs.lemmas.List.{length-replicate}
use Rattle.xdp_maps.specs.declared.decl.MapKind.{MapKind}
use Rattle.xdp_maps.specs.declared.decl.MapKind.TheVariants.{Hash, Array}
use Rattle.xdp_maps.specs.declared.decl.MapDecl.{MapDecl}
use Rattle.xdp_maps.specs.Contents.{IsBytes, IsOver, IsFilled_as, IsWithinLimits, TakesKey, TakesKey_as, limits_as, index_key, index_of, indexed, array_of, opened, opened_as}
use Rattle.xdp_maps.proofs.ChoiceLaws.{eq_equal}
use Rattle.xdp_maps.proofs.Hashes.{order_total, order_exact}
use Rattle.xdp_maps.proofs.Arrays.{get_inside}
use Rattle.xdp_maps.proofs.IndexLaws.{index_of-index_key}
use Rattle.xdp_maps.proofs.ByteLaws.{IsBytes-little_bytes}

-- an index's key is four bytes
pub IsBytes-index_key : (i : ℕ) → IsBytes 4 (index_key i)
unfolding index_key
IsBytes-index_key i = IsBytes-little_bytes 4 i

-- a key that is found among indexed values is an index, with its value
module _ (order : List ℕ → List ℕ → Ordering) (exact : IsAntisymmetric order) (x : List ℕ) where
  found_among : (n j : ℕ) (q : List ℕ) → IsTrue (is_some (find order q (indexed j (replicate n x)))) → (k : ℕ) × (k < n) × (q ≡ index_key (j + k)) × (find order q (indexed j (replicate n x)) ≡ Some x)
  found_among zero j q there = cc
  found_among (suc n) j q there =
      elim (eq_by_cmp order q (index_key j)) as (λ b. eq_by_cmp order q (index_key j) ≡ b → IsTrue (is_some (cond b (Some x) (find order q (indexed (j + 1) (replicate n x))))) → (k : ℕ) × (k < suc n) × (q ≡ index_key (j + k)) × (cond b (Some x) (find order q (indexed (j + 1) (replicate n x))) ≡ Some x)) [
        | true ↦ λ tie _. (0, omega arith, exact q (index_key j) (eq_equal _ tie) ∙ ap index_key (omega arith), refl)
        | false ↦ λ _ later.
            let rest = found_among n (j + 1) q later in
            (suc rest.0, omega (arith, rest.1), rest.2 ∙ ap index_key (omega arith), rest.3)
      ] refl there

-- each byte, also past the last
pub bytes_below : (bs : List ℕ) → All (λ b. b < 256) bs → (i : ℕ) → get_or bs i 0 < 256
bytes_below [] fit i = omega arith
bytes_below (b ∷ bs) fit zero = All-head (λ x. x < 256) b bs fit
bytes_below (b ∷ bs) fit (suc i) = bytes_below bs (All-tail (λ x. x < 256) b bs fit) i

abbrev pub values_at_first : MapDecl → List (List ℕ)
values_at_first d = replicate d.cap (replicate d.value 0)

find_first : (d : MapDecl) (q : List ℕ) → map.get (array_of (values_at_first d)) q ≡ find (slice_cmp nat_cmp) q (indexed 0 (values_at_first d))
find_first d q = get-from_entries order_total (indexed 0 (values_at_first d)) q

array_keys : (d : MapDecl) → d.kind ≡ Array → d.key ≡ 4 → d.cap ≤ 65536 → (q : List ℕ) → IsTrue (map.contains_key (array_of (values_at_first d)) q) → TakesKey d q
array_keys d kind four few q there =
    let place = found_among (slice_cmp nat_cmp) order_exact (replicate d.value 0) d.cap 0 q (sym (ap is_some (find_first d q)) ∙ there) in
    let index : 0 + place.0 ≡ place.0 = omega arith in
    let is_key : q ≡ index_key place.0 = place.2 ∙ ap index_key index in
    let small : place.0 < 2 ^ 32 = omega (arith, place.1) in
    let within : index_of q < d.cap = subst (λ i. i < d.cap) (sym (ap index_of is_key ∙ index_of-index_key place.0 small)) place.1 in
    (subst (λ n. IsBytes n q) (sym four) (subst (IsBytes 4) (sym is_key) (IsBytes-index_key place.0)), subst (λ k. TakesKey_as k d q) (sym kind) within)

array_values : (d : MapDecl) (q : List ℕ) → IfSome (map.get (array_of (values_at_first d)) q) (IsBytes d.value)
array_values d q =
    let zeros : IsBytes d.value (replicate d.value 0) = record { len = length-replicate d.value 0; bytes_fit = All-replicate (λ b. b < 256) d.value 0 (omega arith) } in
    let found : IfSome (find (slice_cmp nat_cmp) q (indexed 0 (values_at_first d))) (IsBytes d.value) =
    elim (find (slice_cmp nat_cmp) q (indexed 0 (values_at_first d))) as (λ o. find (slice_cmp nat_cmp) q (indexed 0 (values_at_first d)) ≡ o → IfSome o (IsBytes d.value)) [
      | None ↦ λ _. tt
      | Some v ↦ λ is.
          let place = found_among (slice_cmp nat_cmp) order_exact (replicate d.value 0) d.cap 0 q (ap is_some is) in
          subst (λ o. IfSome o (IsBytes d.value)) (sym place.3 ∙ is) zeros
    ] refl in
    subst (λ o. IfSome o (IsBytes d.value)) (sym (find_first d q)) found

array_filled : (d : MapDecl) → d.kind ≡ Array → d.key ≡ 4 → (q : List ℕ) → TakesKey d q → IsTrue (map.contains_key (array_of (values_at_first d)) q)
array_filled d kind four q takes =
    let within : index_of q < d.cap = subst (λ k. TakesKey_as k d q) kind takes.1 in
    let count : length (values_at_first d) ≡ d.cap = length-replicate d.cap (replicate d.value 0) in
    ap is_some (get_inside (values_at_first d) q [] (takes.0.len ∙ four) (bytes_below q takes.0.bytes_fit) (subst (λ n. index_of q < n) (sym count) within))

opened_as_over : (k : MapKind) (d : MapDecl) → d.kind ≡ k → IsWithinLimits d → IsOver d (opened_as k d)
opened_as_over Hash d kind limits = record {
  keys = λ q there. (let clash : false ≡ true = sym (ap is_some (get-empty (slice_cmp nat_cmp) q)) ∙ there in cc);
  values = λ q. subst (λ o. IfSome o (IsBytes d.value)) (sym (get-empty (slice_cmp nat_cmp) q)) tt;
  filled = (let none : map.len map.empty ≤ d.cap = subst (λ n. n ≤ d.cap) (sym (len-empty (slice_cmp nat_cmp) (List ℕ))) (omega arith) in subst (λ k. IsFilled_as k d map.empty) (sym kind) none);
}
opened_as_over Array d kind limits =
    let by_kind = subst (λ k. limits_as k d) kind limits.by_kind in
    record {
      keys = array_keys d kind by_kind.0 by_kind.1;
      values = array_values d;
      filled = subst (λ k. IsFilled_as k d (array_of (values_at_first d))) (sym kind) (array_filled d kind by_kind.0);
    }

pub opened_over : (d : MapDecl) → IsWithinLimits d → IsOver d (opened d)
unfolding opened
opened_over d limits = opened_as_over d.kind d refl limits
