-- A table with one entry changed, and lists that grow by one.
use Rattle.std.specs.Prelude.{◌≡◌, ◌≢◌, ℕ, ◌+◌, ◌<◌, ◌==◌, Bool, true, false, Option, Some, None, List, [], ◌∷◌, ◌++◌, length, slice_set}
use Rattle.std.proofs.Common.{get_or, refl, sym, ap, ◌∙◌, subst, arith, inl, inr, ◌⊎◌}
use Rattle.std.proofs.lemmas.Bool.{cases_eq, eqb-true, eqb-false}
use Rattle.std.proofs.lemmas.List.{get_or-set_same, get_or-set_other, get_or_push, get_or_append_left}
use Rattle.cell_nets.specs.declared.operand.Operand.{Operand}
use Rattle.row_net.specs.Table.{Stands, IsIn}

module _ {N : Type 0} (table : List (Option (Operand N))) (k : ℕ) (a : Operand N) (inside : k < length table) where
  abbrev changed : List (Option (Operand N))
  changed = slice_set table k (Some a)

  pub at_place : Stands changed k a
  at_place = get_or-set_same table k (Some a) None inside

  -- what holds of the new operand and of all earlier ones
  pub of_changed : (Q : ℕ → Operand N → Type 0) → Q k a → ((j : ℕ) (b : Operand N) → Stands table j b → Q j b) → (j : ℕ) (b : Operand N) → Stands changed j b → Q j b
  of_changed Q here rest j b s = by_case (cases_eq j k)
    where
      by_case : (j ≡ k) ⊎ (j ≢ k) → Q j b
      by_case (inl e) =
          let same : Some b ≡ Some a = sym s ∙ ap (λ n. get_or changed n None) e ∙ at_place in
          let is : b ≡ a = cc in
          subst (λ i. Q i b) (sym e) (subst (Q k) (sym is) here)
      by_case (inr n) = rest j b (sym (get_or-set_other table k j (Some a) None n) ∙ s)

  pub still_in : (j : ℕ) → IsIn table j → IsIn changed j
  still_in j i = by_case (cases_eq j k)
    where
      by_case : (j ≡ k) ⊎ (j ≢ k) → IsIn changed j
      by_case (inl e) = (a, ap (λ n. get_or changed n None) e ∙ at_place)
      by_case (inr n) = (i.0, get_or-set_other table k j (Some a) None n ∙ i.1)

-- what holds of each by its number, holds with one more
pub entries_more : {A : Type 0} (R : ℕ → A → Type 0) (xs ys : List A) (i : ℕ) (x : A) → length xs ≡ i → ((n : ℕ) (d : A) → n < i → R n (get_or xs n d)) → R i x → ys ≡ xs ++ x ∷ [] → (n : ℕ) (d : A) → n < i + 1 → R n (get_or ys n d)
entries_more R xs ys i x count each here e n d l = subst (λ zs. R n (get_or zs n d)) (sym e) (by_test (n == i) refl)
  where
    by_test : (t : Bool) → (n == i) ≡ t → R n (get_or (xs ++ x ∷ []) n d)
    by_test true f =
        let same : n ≡ i = eqb-true n i f in
        let last : get_or (xs ++ x ∷ []) n d ≡ x = ap (λ k. get_or (xs ++ x ∷ []) k d) same ∙ get_or_push xs x d i count in
        subst (R n) (sym last) (subst (λ k. R k x) (sym same) here)
    by_test false f =
        let less : n < i = omega (arith, l, eqb-false n i f) in
        subst (R n) (sym (get_or_append_left xs (x ∷ []) d n (omega (arith, count)))) (each n d less)
