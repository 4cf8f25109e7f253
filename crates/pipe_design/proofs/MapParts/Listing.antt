-- Lists from the front on: what passes a test, and one more at the end.
use Rattle.std.specs.List.{filter}
use Rattle.std.proofs.Common.{◌≡◌, ◌∙◌, ℕ, zero, suc, ◌+◌, ◌<◌, Bool, true, false, cond, List, [], ◌∷◌, ◌++◌, length, take, get_or, refl, sym, ap, subst, arith}
use Rattle.std.proofs.lemmas.List.Filters.{length-filter_more}

-- ---- where a front ends, all go on with this number
abbrev Joins : List ℕ → List ℕ → ℕ → Type 0
Joins front all x = (length front < length all) × (get_or all (length front) 0 ≡ x)

behind : (y : ℕ) (front all : List ℕ) (x : ℕ) → Joins front all x → (b : Bool) → Joins (cond b (y ∷ front) front) (cond b (y ∷ all) all) x
behind y front all x h true = (omega (arith, h.0), h.1)
behind y front all x h false = h

-- ---- how many of the first ones pass it: the next one that does is that of this number among all that do
module _ (q : ℕ → Bool) where
  abbrev pub passed : List ℕ → ℕ → ℕ
  passed xs i = length (filter q (take i xs))

  pub passed_more : (xs : List ℕ) (i : ℕ) → i < length xs → q (get_or xs i 0) ≡ true → passed xs (i + 1) ≡ passed xs i + 1
  passed_more xs i lt h = length-filter_more q xs i 0 lt ∙ ap (λ b. passed xs i + cond b 1 0) h

  pub passed_same : (xs : List ℕ) (i : ℕ) → i < length xs → q (get_or xs i 0) ≡ false → passed xs (i + 1) ≡ passed xs i
  passed_same xs i lt h = length-filter_more q xs i 0 lt ∙ ap (λ b. passed xs i + cond b 1 0) h ∙ omega arith

  -- it is there
  pub record IsNext (xs : List ℕ) (i : ℕ) : Type 0 where
    pub there : passed xs i < length (filter q xs)
    pub is : get_or (filter q xs) (passed xs i) 0 ≡ get_or xs i 0

  next : (xs : List ℕ) (i : ℕ) → i < length xs → q (get_or xs i 0) ≡ true → Joins (filter q (take i xs)) (filter q xs) (get_or xs i 0)
  next [] i lt h = absurd (omega (arith, lt))
  next (x ∷ xs) zero lt h = subst (λ b. Joins [] (cond b (x ∷ filter q xs) (filter q xs)) x) (sym h) (omega arith, refl)
  next (x ∷ xs) (suc i) lt h = behind x (filter q (take i xs)) (filter q xs) (get_or xs i 0) (next xs i (omega (arith, lt)) h) (q x)

  pub next_is : (xs : List ℕ) (i : ℕ) → i < length xs → q (get_or xs i 0) ≡ true → IsNext xs i
  next_is xs i lt h = let r = next xs i lt h in record { there = r.0; is = r.1 }

-- ---- one more at the end, of two lists and of one
pair_more :
    {A B : Type 0} (P : ℕ → A → B → Type 0) (xs : List A) (ys : List B) (a : A) (b : B) → length xs ≡ length ys → ((i : ℕ) (d : A) (e : B) → i < length xs → P i (get_or xs i d) (get_or ys i e)) → P (length xs) a b
    → (i : ℕ) (d : A) (e : B) → i < length xs + 1 → P i (get_or (xs ++ a ∷ []) i d) (get_or (ys ++ b ∷ []) i e)
pair_more P [] [] a b same each here zero d e lt = here
pair_more P [] [] a b same each here (suc i) d e lt = absurd (omega (arith, lt))
pair_more P [] (y ∷ ys) a b same each here i d e lt = absurd (omega (arith, same))
pair_more P (x ∷ xs) [] a b same each here i d e lt = absurd (omega (arith, same))
pair_more P (x ∷ xs) (y ∷ ys) a b same each here zero d e lt = each 0 d e (omega arith)
pair_more P (x ∷ xs) (y ∷ ys) a b same each here (suc i) d e lt = pair_more (λ m. P (suc m)) xs ys a b (omega (arith, same)) (λ m u v l. each (suc m) u v (omega (arith, l))) here i d e (omega (arith, lt))

pub pair_next :
    {A B : Type 0} (P : ℕ → A → B → Type 0) (n : ℕ) (xs : List A) (ys : List B) (a : A) (b : B) → length xs ≡ n → length ys ≡ n → ((i : ℕ) (d : A) (e : B) → i < n → P i (get_or xs i d) (get_or ys i e)) → P n a b
    → (i : ℕ) (d : A) (e : B) → i < n + 1 → P i (get_or (xs ++ a ∷ []) i d) (get_or (ys ++ b ∷ []) i e)
pair_next P n xs ys a b long long_ys each here i d e lt =
    pair_more P xs ys a b (long ∙ sym long_ys) (λ m u v l. each m u v (omega (arith, l, long))) (subst (λ m. P m a b) (sym long) here) i d e (omega (arith, lt, long))
