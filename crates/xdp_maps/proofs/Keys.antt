-- Lookups after an insert and a removal, at the same key and at another.
use Rattle.std.proofs.Common.{◌≡◌, ◌≢◌, true, false, cond, Some, None, ◌⊎◌, inl, inr, refl, sym, ap, subst, ◌∙◌}
use Rattle.std.specs.declared.cmp.Ordering.{Ordering}
use Rattle.std.specs.Ordering.{eq_by_cmp, is_eq}
use Rattle.std.specs.Cmp.{IsTotalOrder, tied_itself}
use Rattle.std.specs.FinMap as map
use Rattle.std.specs.FinMap.{IsAntisymmetric, get-insert, get-remove}
use Rattle.xdp_maps.proofs.ChoiceLaws.{eq_equal}

module _ {K : Type 0} (order : K → K → Ordering) (total : IsTotalOrder order) (exact : IsAntisymmetric order) where
  tied : (k : K) → eq_by_cmp order k k ≡ true
  tied k = ap is_eq (tied_itself total k)

  untied : (q k : K) → q ≢ k → eq_by_cmp order q k ≡ false
  untied q k differ = elim (eq_by_cmp order q k) as (λ b. eq_by_cmp order q k ≡ b → b ≡ false) [
    | true ↦ λ tie. absurd (differ (exact q k (eq_equal _ tie)))
    | false ↦ λ _. refl
  ] refl

  pub key_cases : (q k : K) → (q ≡ k) ⊎ (q ≢ k)
  key_cases q k = elim (eq_by_cmp order q k) as (λ b. eq_by_cmp order q k ≡ b → (q ≡ k) ⊎ (q ≢ k)) [
    | true ↦ λ tie. inl (exact q k (eq_equal _ tie))
    | false ↦ λ no. inr (λ same. let yes : eq_by_cmp order q k ≡ true = subst (λ p. eq_by_cmp order q p ≡ true) same (tied q) in let clash : true ≡ false = sym yes ∙ no in cc)
  ] refl

module _ {K X : Type 0} (order : K → K → Ordering) (total : IsTotalOrder order) (exact : IsAntisymmetric order) (m : map.FinMap order X) where
  pub get-insert_same : (k : K) (v : X) → map.get (map.insert m k v) k ≡ Some v
  get-insert_same k v = get-insert total m k v k ∙ ap (λ b. cond b (Some v) (map.get m k)) (tied order total exact k)

  pub get-insert_other : (k : K) (v : X) (q : K) → q ≢ k → map.get (map.insert m k v) q ≡ map.get m q
  get-insert_other k v q differ = get-insert total m k v q ∙ ap (λ b. cond b (Some v) (map.get m q)) (untied order total exact q k differ)

  pub get-remove_same : (k : K) → map.get (map.remove m k) k ≡ None
  get-remove_same k = get-remove total m k k ∙ ap (λ b. cond b None (map.get m k)) (tied order total exact k)

  pub get-remove_other : (k q : K) → q ≢ k → map.get (map.remove m k) q ≡ map.get m q
  get-remove_other k q differ = get-remove total m k q ∙ ap (λ b. cond b None (map.get m q)) (untied order total exact q k differ)
