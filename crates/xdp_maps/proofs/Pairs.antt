-- The numbered pairs of a map are those that lookups find.
use Rattle.std.proofs.Common.{◌≡◌, ℕ, suc, true, false, cond, List, [], ◌∷◌, get_or, Option, Some, None, slice_get, refl, sym, ap, subst, ◌∙◌}
use Rattle.std.specs.declared.cmp.Ordering.{Ordering}
use Rattle.std.specs.Ordering.{nat_cmp, eq_by_cmp}
use Rattle.std.specs.Cmp.{IsTotalOrder}
use Rattle.std.specs.Cmp.Lexicographic.{slice_cmp}
use Rattle.std.specs.Option.{option_map}
use Rattle.std.specs.FinMap as map
use Rattle.std.specs.FinMap.{IsAntisymmetric, find, get-entries, entries_sorted}
use Rattle.std.proofs.lemmas.Option.{get_or_from_slice_get, slice_get_within}
use Rattle.xdp_maps.specs.declared.decl.MapKind.{MapKind}
use Rattle.xdp_maps.specs.declared.decl.MapKind.TheVariants.{Hash, Array}
use Rattle.xdp_maps.specs.declared.decl.MapDecl.{MapDecl}
use Rattle.xdp_maps.specs.Contents.{Contents, IsBytes, limits_as, index_key, index_of}
use Rattle.xdp_maps.specs.Calls.{entry_as}
use Rattle.xdp_maps.specs.Layout.{IsRising, IsAt}
use Rattle.xdp_maps.proofs.Entries.{find_at}
use Rattle.xdp_maps.proofs.ChoiceLaws.{eq_equal}
use Rattle.xdp_maps.proofs.Hashes.{order_total, order_exact, from_T}
use Rattle.xdp_maps.proofs.Arrays.{index_key-index_of}
use Rattle.xdp_maps.proofs.Opened.{bytes_below}

module _ {K X : Type 0} (order : K → K → Ordering) (total : IsTotalOrder order) (exact : IsAntisymmetric order) where
  -- a pair is found under its key
  pub pair_found : (m : map.FinMap order X) (i : ℕ) (k : K) (v : X) → slice_get (map.entries m) i ≡ Some (k, v) → map.get m k ≡ Some v
  pair_found m i k v h =
      let es = map.entries m in
      let rising : IsRising order es = from_T _ (entries_sorted m) in
      let pair : (d : K × X) → get_or es i d ≡ (k, v) = λ d. get_or_from_slice_get es i (k, v) d h in
      let at : IsAt es k i = record { in_range = slice_get_within es i (k, v) h; has_key = λ d. sym (ap (λ (e : K × X). e.0) (pair d)) } in
      get-entries m k ∙ find_at order total exact es k i rising at (k, v) ∙ ap (λ (e : K × X). Some e.1) (pair (k, v))

  pair_among : (es : List (K × X)) (k : K) (v : X) → find order k es ≡ Some v → (i : ℕ) × (slice_get es i ≡ Some (k, v))
  pair_among [] k v h = cc
  pair_among (e ∷ es) k v h =
      elim (eq_by_cmp order k e.0) as (λ b. eq_by_cmp order k e.0 ≡ b → cond b (Some e.1) (find order k es) ≡ Some v → (i : ℕ) × (slice_get (e ∷ es) i ≡ Some (k, v))) [
        | true ↦ λ tie is. (
          0,
          (
              let pair : K → X → K × X = λ a b. (a, b) in
              let key : k ≡ e.0 = exact k e.0 (eq_equal _ tie) in
              let value : e.1 ≡ v = cc in
              ap (λ (x : X). Some (pair e.0 x)) value ∙ ap (λ (q : K). Some (pair q v)) (sym key)),
        )
        | false ↦ λ _ later. (let rest = pair_among es k v later in (suc rest.0, rest.1))
      ] refl h

  -- and what is found is a pair
  pub found_pair : (m : map.FinMap order X) (k : K) (v : X) → map.get m k ≡ Some v → (i : ℕ) × (slice_get (map.entries m) i ≡ Some (k, v))
  found_pair m k v h = pair_among (map.entries m) k v (sym (get-entries m k) ∙ h)

indexed_pair : (c : Contents) (i : ℕ) (k v : List ℕ) (o : Option (List ℕ)) → map.get c (index_key i) ≡ o → option_map {U = List ℕ × List ℕ} (λ w. (index_key i, w)) o ≡ Some (k, v) → map.get c k ≡ Some v
indexed_pair c i k v None is h = cc
indexed_pair c i k v (Some w) is h =
    let pair : List ℕ → List ℕ → List ℕ × List ℕ = λ a b. (a, b) in
    let same : pair (index_key i) w ≡ pair k v = cc in
    let key : index_key i ≡ k = ap (λ (p : List ℕ × List ℕ). p.0) same in
    let value : w ≡ v = ap (λ (p : List ℕ × List ℕ). p.1) same in
    subst (λ q. map.get c q ≡ Some v) key (is ∙ ap Some value)

pub entry_found : (kind : MapKind) (c : Contents) (i : ℕ) (k v : List ℕ) → entry_as kind c i ≡ Some (k, v) → map.get c k ≡ Some v
entry_found Hash c i k v h = pair_found (slice_cmp nat_cmp) order_total order_exact c i k v h
entry_found Array c i k v h = indexed_pair c i k v (map.get c (index_key i)) refl h

pub found_entry : (kind : MapKind) (d : MapDecl) (c : Contents) (k v : List ℕ) → limits_as kind d → IsBytes d.key k → map.get c k ≡ Some v → (i : ℕ) × (entry_as kind c i ≡ Some (k, v))
found_entry Hash d c k v limits fits h = found_pair (slice_cmp nat_cmp) order_total order_exact c k v h
found_entry Array d c k v limits fits h =
    let same : index_key (index_of k) ≡ k = index_key-index_of k (fits.len ∙ limits.0) (bytes_below k fits.bytes_fit) in
    let pair : List ℕ → Option (List ℕ × List ℕ) = λ q. option_map (λ w. (q, w)) (map.get c q) in
    (index_of k, ap pair same ∙ ap (option_map {U = List ℕ × List ℕ} (λ w. (k, w))) h)
