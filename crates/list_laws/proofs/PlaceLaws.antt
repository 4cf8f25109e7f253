-- Places of a list.
use Rattle.std.specs.Prelude.{replicate}
use Rattle.std.proofs.Common.{◌≡◌, ℕ, zero, suc, ◌+◌, ◌<◌, false, List, [], ◌∷◌, ◌++◌, length, get_or, refl, sym, ap, ◌∙◌, subst, arith, inl, inr}
use Rattle.std.proofs.lemmas.Bool.{cases_lt}
use Rattle.std.proofs.lemmas.List.{get_or_past, get_or_append_left, get_or_push, length_push}

-- what has a size that what is missing has not, is there
pub some_below : {X : Type 0} (size : X → ℕ) (none : X) (xs : List X) (k : ℕ) → size none ≡ 0 → 0 < size (get_or xs k none) → k < length xs
some_below size none xs k z h = elim (cases_lt k (length xs)) [
  | inl below ↦ below
  | inr past ↦ let e = ap size (get_or_past xs k none past) ∙ z in absurd (omega (arith, e, h))
]

-- an element of a list that has one
pub some_of : {X : Type 0} (xs : List X) (n : ℕ) → n < length xs → X
some_of [] n lt = absurd (omega (arith, lt))
some_of (x ∷ xs) n lt = x

-- no flag is set where none was
pub no_mark : (n j : ℕ) → get_or (replicate n false) j false ≡ false
no_mark zero j = refl
no_mark (suc n) zero = refl
no_mark (suc n) (suc j) = no_mark n j

-- ---- one more at the end
pub one_more : {X : Type 0} (xs : List X) (n : ℕ) (x : X) → length xs ≡ n → length (xs ++ x ∷ []) ≡ n + 1
one_more xs n x count = length_push xs x ∙ ap (λ m. m + 1) count

-- what holds of each, and of the next
pub each_more : {X : Type 0} (P : ℕ → X → Type 0) (xs : List X) (n : ℕ) (x : X) → length xs ≡ n → ((k : ℕ) (d : X) → k < n → P k (get_or xs k d)) → P n x → (k : ℕ) (d : X) → k < n + 1 → P k (get_or (xs ++ x ∷ []) k d)
each_more P xs n x count each last k d lt = elim (cases_lt k n) [
  | inl l ↦ subst (P k) (sym (get_or_append_left xs (x ∷ []) d k (omega (arith, l, count)))) (each k d l)
  | inr g ↦
      let e : k ≡ n = omega (arith, g, lt) in
      subst (P k) (sym (get_or_push xs x d k (count ∙ sym e))) (subst (λ m. P m x) (sym e) last)
]
