-- A table with one entry put, where there is room for it.
use Rattle.std.specs.Prelude.{◌≡◌, ◌≢◌, ℕ, ◌<◌, ◌≤◌, Option, Some, None, List, length, slice_set}
use Rattle.std.proofs.Common.{get_or, sym, ap, ◌∙◌, subst, inl, inr, ◌⊎◌}
use Rattle.std.proofs.lemmas.Bool.{cases_eq, cases_lt}
use Rattle.std.proofs.lemmas.List.{get_or-set_same, get_or-set_other, set_past}
use Rattle.overlay_net.specs.cell_nets.declared.operand.Operand.{Operand}
use Rattle.row_net.specs.Table.{Stands, IsIn}

module _ {N : Type 0} (table : List (Option (Operand N))) (k : ℕ) (a : Operand N) where
  abbrev pub with_put : List (Option (Operand N))
  with_put = slice_set table k (Some a)

  pub put_in : k < length table → IsIn with_put k
  put_in l = (a, get_or-set_same table k (Some a) None l)

  -- what holds of it, if it is there, and of all earlier ones
  pub of_put : (Q : ℕ → Operand N → Type 0) → (k < length table → Q k a) → ((j : ℕ) (b : Operand N) → Stands table j b → Q j b) → (j : ℕ) (b : Operand N) → Stands with_put j b → Q j b
  of_put Q here rest j b s = by_case (cases_eq j k) (cases_lt k (length table))
    where
      by_case : (j ≡ k) ⊎ (j ≢ k) → (k < length table) ⊎ (length table ≤ k) → Q j b
      by_case (inl e) (inl l) =
          let same : Some b ≡ Some a = sym s ∙ ap (λ n. get_or with_put n None) e ∙ get_or-set_same table k (Some a) None l in
          let is : b ≡ a = cc in
          subst (λ i. Q i b) (sym e) (subst (Q k) (sym is) (here l))
      by_case (inl e) (inr l) = rest j b (subst (λ xs. Stands xs j b) (set_past table k (Some a) l) s)
      by_case (inr n) m = rest j b (sym (get_or-set_other table k j (Some a) None n) ∙ s)

  pub still_in : (j : ℕ) → IsIn table j → IsIn with_put j
  still_in j (b, s) = by_case (cases_eq j k) (cases_lt k (length table))
    where
      by_case : (j ≡ k) ⊎ (j ≢ k) → (k < length table) ⊎ (length table ≤ k) → IsIn with_put j
      by_case (inl e) (inl l) = subst (IsIn with_put) (sym e) (put_in l)
      by_case (inl e) (inr l) = subst (λ xs. IsIn xs j) (sym (set_past table k (Some a) l)) (b, s)
      by_case (inr n) m = (b, get_or-set_other table k j (Some a) None n ∙ s)
